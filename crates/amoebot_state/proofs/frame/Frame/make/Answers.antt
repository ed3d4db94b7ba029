use Rattle.std.proofs.Common.{inr, pos, refl, subst, sym, take, rules}
use Rattle.std.proofs.lemmas.List.{take_all, take_more}
use Rattle.tri_lattice.specs.declared.node.Node.{Node}
use Rattle.amoebot_state.specs.Storage.{IsMarked}
use Rattle.amoebot_state.proofs.Frames.{first_bad, frame_kept, gridded_is, walls_more}
use Rattle.std.proofs.Common.{◌≡◌, ◌∙◌, length, arith}
use Rattle.amoebot_state.proofs.Stored.{unmarked}
use Rattle.amoebot_state.proofs.frame.Frame.make.Goals as goal

pub returns-then-not-mark-clause-fault : goal.returns-then-not-mark-clause-fault
returns-then-not-mark-clause-fault c =
    let origin : Node = record { x = pos 0; y = pos 0 } in
    let walls = c.args.walls.now in
    let place = c.loop-place.place in
    let kept = c.loop-place.invariant in
    inr (place, refl, first_bad c.args.area walls place origin c.loop-place-test.true kept.fine (c.mark.ensures.bad c.if-not-mark.true (take place walls) kept.marked))

pub loop-place-preserved : goal.loop-place-preserved
loop-place-preserved c =
    let origin : Node = record { x = pos 0; y = pos 0 } in
    let walls = c.args.walls.now in
    let place = c.loop-place.place in
    let kept = c.loop-place.invariant in
    let now = c.mark.ensures.good c.if-not-mark.false (take place walls) kept.marked in
    record {
      marked = subst (λ vs. IsMarked c.args.area vs c.mark.new.marks.items) (sym (take_more walls place origin c.loop-place-test.true)) now.1;
      fine = walls_more c.args.area walls place origin c.loop-place-test.true kept.fine now.0;
    }

whole : (c : goal.After-loop-place) → IsMarked c.args.area c.args.walls.now c.loop-place.marks.items
whole c = subst (λ vs. IsMarked c.args.area vs c.loop-place.marks.items) (take_all c.loop-place.place c.args.walls.now c.loop-place-test.false) c.loop-place.invariant.marked

pub invariant_of-result : goal.invariant_of-result
invariant_of-result c = frame_kept c.args.area c.args.maxes c.args.walls.now c.loop-place.marks.items c.size.ensures.area (search rules) (whole c)

pub returns-clause-value : goal.returns-clause-value
returns-clause-value c = gridded_is c.args.area c.args.maxes c.args.walls.now c.loop-place.marks.items (whole c)

pub loop-place-init : goal.loop-place-init
loop-place-init c =
    let size : length c.resize.new.self.items ≡ c.size.result = sym c.resize.new.self.ok.0 ∙ c.in_ok-resize.ensures.len in
    record {
      marked = unmarked c.args.area c.resize.new.self.items _ _ _ (size ∙ c.size.ensures.value) c.in_ok-resize.ensures.items c.new-marks.ensures.items;
      fine = λ j v lt at. absurd (omega (arith, lt));
    }
