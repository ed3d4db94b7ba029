use Rattle.std.proofs.Common.{◌≡◌, ◌<◌, ◌+◌, ◌++◌, ◌∷◌, [], ◌∙◌, ℕ, suc, List, length, sym, ap, subst, arith}
use Rattle.std.specs.List.{All}
use Rattle.std.proofs.lemmas.List.Elements.{All-push}
use Rattle.std.proofs.lemmas.Result.{err_from_is_err_and}
use Rattle.text_tokens.specs.Reading.{◌>>=◌, pure, is_number, repeated}
use Rattle.text_tokens.specs.Lawful.{always}
use Rattle.text_tokens.proofs.StepsLemmas.{fails}
use Rattle.text_tokens.proofs.LoopLemmas.{StillReads, loop_chains, loop_goes_on, loop_is_over, loop_fails}
use Rattle.claim_core.specs.Limits.{most_ids}
use Rattle.shape_text.specs.Parts.{one_more}
use Rattle.schedule_text.specs.Lists.{IsId}
use Rattle.schedule_text.specs.Readers.{an_id, ids_from, all_ids}
use Rattle.schedule_text.proofs.ListLaws.{no_number, id_elements}
use Rattle.schedule_text.proofs.lists.read_ids.Goals as goal

pub returns-in_err-read_id-clause-reads : goal.returns-in_err-read_id-clause-reads
unfolding all_ids
returns-in_err-read_id-clause-reads c =
    let p = err_from_is_err_and c.from_residual.result c.from_residual.ensures.1 in
    let bots = c.args.bots in
    rw (p.1, p.2) (fails (an_id bots 0) (λ id. ids_from bots 1 >>= λ more. pure (id ∷ more)) c.in_err-read_id.field-0.0 c.args.tokens.now c.read_id.new.tokens c.in_err-read_id.ensures.reads)

pub loop-ids-init : goal.loop-ids-init
unfolding all_ids ids_from
loop-ids-init c =
    let bots = c.args.bots in
    let id = c.in_ok-read_id.field-0 in
    let one : c.push.new.self.items ≡ id ∷ [] = c.in_ok-push.ensures.items ∙ ap (λ (ids : List ℕ). ids ++ id ∷ []) c.new-ids.ensures.items in
    let size = ap length one in
    record {
      reads = loop_chains (an_id bots 0) (ids_from bots 1) c.args.tokens.now c.read_id.new.tokens id c.push.new.self.items one c.in_ok-read_id.ensures.reads;
      same = omega (arith, size);
      some = omega arith;
      few = omega arith;
      there = subst (λ (ids : List ℕ). All (λ id. id < bots) ids) (sym one) (All-push (λ (id : ℕ). id < bots) [] id (λ k d lt. absurd (omega arith)) c.in_ok-read_id.ensures.there);
    }

pub returns-in_err-id-clause-reads : goal.returns-in_err-id-clause-reads
returns-in_err-id-clause-reads c =
    let p = err_from_is_err_and c.from_residual-in_err-id.result c.from_residual-in_err-id.ensures.1 in
    let bots = c.args.bots in
    rw (p.1, p.2) (loop_fails (IsId bots) (an_id bots) one_more is_number always no_number (id_elements bots) (all_ids bots) c.args.tokens.now c.loop-ids.ids.items c.loop-ids.before c.loop-ids.tokens c.loop-ids.invariant.reads
    c.in_err-id.field-0.0 c.more_id.new.tokens c.in_err-id.ensures.reads)

pub loop-ids-preserved : goal.loop-ids-preserved
loop-ids-preserved c =
    let bots = c.args.bots in
    let next = rw c.in-Some.is at c.in_ok-id.ensures.reads in
    let room : c.loop-ids.before < most_ids = rw c.in-Some.is at c.in_ok-id.ensures.room in
    let there = rw c.in-Some.is at c.in_ok-id.ensures.there in
    let more = loop_goes_on (IsId bots) (an_id bots) one_more is_number always no_number (id_elements bots) (all_ids bots) c.args.tokens.now c.loop-ids.ids.items c.loop-ids.before c.loop-ids.tokens c.loop-ids.invariant.reads
    c.in-Some.id c.more_id.new.tokens next c.push-in-Some.new.self.items c.in_ok-push-2.ensures.items in
    let one : suc c.loop-ids.before ≡ c.loop-ids.before + 1 = omega arith in
    record {
      reads = subst (λ (n : ℕ). StillReads (all_ids bots) c.args.tokens.now c.push-in-Some.new.self.items (repeated is_number (an_id bots) one_more n) c.more_id.new.tokens) one more;
      same = omega (arith, c.in_ok-push-2.ensures.len, c.loop-ids.invariant.same);
      some = omega arith;
      few = omega (arith, room);
      there = subst (λ (ids : List ℕ). All (λ id. id < bots) ids) (sym c.in_ok-push-2.ensures.items) (All-push (λ (id : ℕ). id < bots) c.loop-ids.ids.items c.in-Some.id c.loop-ids.invariant.there there);
    }

pub returns-clause-reads : goal.returns-clause-reads
returns-clause-reads c =
    let bots = c.args.bots in
    loop_is_over (IsId bots) (an_id bots) one_more is_number always no_number (id_elements bots) (all_ids bots) c.args.tokens.now c.loop-ids.ids.items c.loop-ids.before c.loop-ids.tokens c.loop-ids.invariant.reads
    c.more_id.new.tokens (rw c.in_default.is at c.in_ok-id.ensures.reads)
