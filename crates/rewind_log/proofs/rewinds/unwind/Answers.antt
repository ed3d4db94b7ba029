use Rattle.std.proofs.Common.{arith}
use Rattle.std.proofs.lemmas.Bool.{both_ways}
use Rattle.rewind_log.specs.Unwinding.{HasSameFrame, IsUnwound}
use Rattle.rewind_log.proofs.Unwound.{other_grounds, other_sizes, unwound, unwound_err}
use Rattle.rewind_log.proofs.rewinds.unwind.Goals.{then-not-has_area_and_walls_of-via-then-not-has_area_and_walls_of, then-not-has_area_and_walls_of-via-else-not-has_area_and_walls_of+then-bots}
use Rattle.rewind_log.proofs.rewinds.unwind.Goals as goal

pub returns-then-not-has_area_and_walls_of-clause-differs : goal.returns-then-not-has_area_and_walls_of-clause-differs
returns-then-not-has_area_and_walls_of-clause-differs g c = elim c.then-not-has_area_and_walls_of.branch [
  | then-not-has_area_and_walls_of-via-then-not-has_area_and_walls_of w ↦
      IsUnwound.other_frame (other_grounds c.args.start.now c.args.last
      (λ same. both_ways _ w.if-not-has_area_and_walls_of.true (c.has_area_and_walls_of.ensures.1 same)))
  | then-not-has_area_and_walls_of-via-else-not-has_area_and_walls_of+then-bots w ↦
      let mine = w.bots.ensures.value in
      let other = w.bots-else-not-has_area_and_walls_of.ensures.value in
      IsUnwound.other_frame (other_sizes c.args.start.now c.args.last (λ same. omega (arith, same)))
]

pub returns-clause-back : goal.returns-clause-back
returns-clause-back g c =
    let mine = c.bots.ensures.value in
    let other = c.bots-else-not-has_area_and_walls_of.ensures.value in
    let ground = c.has_area_and_walls_of.ensures.0 c.if-not-has_area_and_walls_of.false in
    let same : HasSameFrame c.args.start.now c.args.last = record { area = ground.0; walls = ground.1; size = omega arith } in
    unwound (g.D.Decider.verdict c.args.decider.now) c.args.start.now c.args.last c.args.entries.now c.args.place same
    c.rewind.result c.rewind.ensures.back

pub returns-clause-differs : goal.returns-clause-differs
returns-clause-differs g c =
    let mine = c.bots.ensures.value in
    let other = c.bots-else-not-has_area_and_walls_of.ensures.value in
    let ground = c.has_area_and_walls_of.ensures.0 c.if-not-has_area_and_walls_of.false in
    let same : HasSameFrame c.args.start.now c.args.last = record { area = ground.0; walls = ground.1; size = omega arith } in
    unwound_err (g.D.Decider.verdict c.args.decider.now) c.args.start.now c.args.last c.args.entries.now c.args.place same
    c.rewind.result c.rewind.ensures.differs
