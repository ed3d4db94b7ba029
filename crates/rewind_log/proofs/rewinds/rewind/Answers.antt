use Rattle.std.proofs.Common.{◌≡◌, ◌<◌, ◌+◌, ◌-◌, ℕ, length, arith, ap, sym, ◌∙◌, subst, Some}
use Rattle.std.proofs.lemmas.Option.{slice_get-get_or}
use Rattle.rewind_log.specs.Rewinds.{IsBack}
use Rattle.rewind_log.proofs.Backs.{back_before}
use Rattle.rewind_log.proofs.rewinds.rewind.Goals as goal

pub returns-then-not-back-clause-differs : goal.returns-then-not-back-clause-differs
returns-then-not-back-clause-differs g c =
    let f = g.D.Decider.verdict c.args.decider.now in
    let entries = c.args.entries.now in
    let at = c.loop-at.at in
    let behind = c.loop-at.invariant.back in
    let within = behind.within in
    let lt : at - 1 < length entries = omega arith in
    let is : at ≡ at - 1 + 1 = omega arith in
    record {
      above = omega arith;
      entry = c.index-entries-at.result;
      there = slice_get-get_or entries (at - 1) c.index-entries-at.result lt ∙ ap Some (sym c.index-entries-at.is);
      world = c.loop-at.world;
      behind = subst (λ (n : ℕ). IsBack f c.args.last entries n c.loop-at.world) is behind;
      none = c.if-not-back.ensures.none;
    }

pub loop-at-preserved : goal.loop-at-preserved
loop-at-preserved g c =
    let f = g.D.Decider.verdict c.args.decider.now in
    let entries = c.args.entries.now in
    let at = c.loop-at.at in
    let behind = c.loop-at.invariant.back in
    let within = behind.within in
    let lt : at - 1 < length entries = omega arith in
    let is : at ≡ at - 1 + 1 = omega arith in
    record {
      low = omega arith;
      size = c.back.ensures.size ∙ c.loop-at.invariant.size;
      back = back_before f c.args.last c.back.new.world c.loop-at.world entries (at - 1) c.index-entries-at.result lt (sym c.index-entries-at.is)
          (subst (λ (n : ℕ). IsBack f c.args.last entries n c.loop-at.world) is behind) c.if-not-back.ensures.step;
    }
