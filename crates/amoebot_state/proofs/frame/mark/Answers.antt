use Rattle.std.proofs.Common.{◌<◌, ◌∙◌, length, sym, arith}
use Rattle.tri_lattice.proofs.Boxes.{index_below}
use Rattle.amoebot_state.proofs.Frames.{marked_now}
use Rattle.amoebot_state.proofs.frame.mark.Goals as goal

pub returns-in-Some-clause-good : goal.returns-in-Some-clause-good
returns-in-Some-clause-good c =
    let at = sym c.index.ensures.value ∙ c.in-Some.is in
    let lt : c.in-Some.number < length c.args.marks.now.items = omega (arith, c.requires, index_below c.args.area.now c.args.node c.in-Some.number at) in
    marked_now c.args.area.now c.args.node c.args.marks.now.items c.mark_number.new.marks.items c.in-Some.number c.mark_number.result at lt c.mark_number.ensures.value c.mark_number.ensures.marks
