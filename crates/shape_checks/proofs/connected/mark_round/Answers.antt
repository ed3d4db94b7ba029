use Rattle.std.proofs.Common.{◌*◌, ap, sym, ◌∙◌, subst, get_or}
use Rattle.std.specs.Prelude.{IsTrue, pos, is_some}
use Rattle.std.proofs.lemmas.List.{get_or_read}
use Rattle.tri_lattice.specs.declared.node.Node.{Node}
use Rattle.tri_lattice.specs.Extent.{Extent, is_in}
use Rattle.tri_lattice.specs.Lattice.{IsNear}
use Rattle.tri_lattice.proofs.Boxes.{near_in}
use Rattle.shape_checks.specs.Marks.{met}
use Rattle.shape_checks.proofs.Bots.{occupied_in}
use Rattle.shape_checks.proofs.MarksLemmas.{marked_in}
use Rattle.shape_checks.proofs.NeighbourLoops.{round_none, round_made, round_left, round_all, next_is}
use Rattle.shape_checks.proofs.connected.mark_round.Goals as goal
use Rattle.shape_checks.proofs.connected.mark_round.Goals.{then-is_some+in_ok-mark, else-is_some}

abbrev origin : Node
origin = record { x = pos 0; y = pos 0 }

pub ring-next-items-requires : goal.ring-next-items-requires
ring-next-items-requires c =
    let w = c.args.world.now in
    let s = c.requires.search in
    let node = met c.args.order.now.items c.args.number in
    let same = get_or_read c.args.order.now.items c.args.number _ c.requires.below c.index-node.ensures _ in
    subst (λ (v : Node). IsNear v) (sym same) (near_in w.area node c.keeps.ensures.valid.area (marked_in w.area c.args.marks.now.items node (s.listed c.args.number c.requires.below)))

pub loop-next-init : goal.loop-next-init
loop-next-init c = round_none _ _ _ _ _ c.requires.search c.requires.below

pub mark-requires-clause-inside : goal.mark-requires-clause-inside
mark-requires-clause-inside c =
    let w = c.args.world.now in
    let next = get_or c.ring-next-items.result c.loop-next.next-index origin in
    let inside = occupied_in w c.keeps.ensures.valid next (ap is_some (sym c.occupant.ensures) ∙ sym c.is_some.ensures ∙ c.if-is_some.true) in
    subst (λ (a : Extent). IsTrue (is_in a next)) (sym c.area-area.ensures) inside

pub mark-requires-clause-size : goal.mark-requires-clause-size
mark-requires-clause-size c = c.loop-next.invariant.search.size ∙ ap (λ (a : Extent). a.w * a.h) (sym c.area-area.ensures)

pub loop-next-preserved : goal.loop-next-preserved
loop-next-preserved c =
    let w = c.args.world.now in
    let had = c.args.order.now.items in
    let r = c.loop-next.invariant in
    let at = next_is _ _ _ had c.args.number c.loop-next.next-index c.ring-next-items.ensures c.index-node.ensures c.requires.below c.loop-next-test.true in
    let on = ap is_some (sym c.occupant.ensures) ∙ sym c.is_some.ensures in
    elim c.if-is_some.branch [
      | then-is_some+in_ok-mark k ↦
          round_made _ w.area c.area-area.result _ had c.loop-next.marks.items _ c.loop-next.order.items _ _ c.loop-next.next-index _ r c.loop-next-test.true at (on ∙ k.if-is_some.true)
          (occupied_in w c.keeps.ensures.valid _ (on ∙ k.if-is_some.true)) c.area-area.ensures
          (ap (λ m. m.items) k.marks-is ∙ k.in_ok-mark.ensures.marks) (ap (λ m. m.items) k.order-is ∙ k.in_ok-mark.ensures.order)
      | else-is_some k ↦ round_left _ _ _ had _ _ _ _ _ c.loop-next.next-index _ r at (on ∙ k.if-is_some.false) (ap (λ m. m.items) k.marks-is) (ap (λ m. m.items) k.order-is)
    ]

pub returns-clause-search : goal.returns-clause-search
returns-clause-search c = round_all _ _ _ _ _ _ _ _ c.loop-next.invariant c.loop-next-test.false
