use Rattle.std.proofs.Common.{◌≡◌, ◌*◌, ap, sym, ◌∙◌, subst, arith}
use Rattle.std.specs.Prelude.{IsTrue}
use Rattle.tri_lattice.specs.Extent.{Extent, is_in}
use Rattle.shape_checks.proofs.Bots.{occupied_in}
use Rattle.shape_checks.proofs.ReachLemmas.{search_begins, search_ends}
use Rattle.shape_checks.proofs.connected.reached.Goals as goal

pub mark-requires-clause-inside : goal.mark-requires-clause-inside
mark-requires-clause-inside c =
    subst (λ (a : Extent). IsTrue (is_in a c.args.start)) (sym c.area-area.ensures) (occupied_in c.args.world.now c.keeps.ensures.valid c.args.start c.requires)

pub loop-done-init : goal.loop-done-init
loop-done-init c =
    let w = c.args.world.now in
    let size : c.size.result ≡ w.area.w * w.area.h = c.size.ensures.value ∙ ap (λ (a : Extent). a.w * a.h) c.area-area.ensures in
    search_begins _ w.area c.area-area.result c.args.start c.size.result _ _ _ _ (c.in_ok-marks.ensures.items_if_clones_equal (λ y e. e)) size c.new-order.ensures.items c.area-area.ensures c.in_ok-mark.ensures.marks c.in_ok-mark.ensures.order
    (occupied_in w c.keeps.ensures.valid c.args.start c.requires) c.requires

pub returns : goal.returns
returns c = search_ends _ _ _ _ _ _ c.loop-done.invariant.0 (omega arith) c.loop-done.invariant.1
