use Rattle.std.proofs.Common.{◌≡◌, ◌*◌, ap, ◌∙◌, arith}
use Rattle.tri_lattice.specs.Extent.{Extent}
use Rattle.claim_core.proofs.cells.cells_of.Goals as goal

pub returns-clause-value : goal.returns-clause-value
returns-clause-value c =
    let nodes : c.size.result ≡ c.args.world.now.area.w * c.args.world.now.area.h = c.size.ensures.value ∙ ap (λ (a : Extent). a.w * a.h) c.area.ensures in
    omega (arith, nodes, c.bots.ensures.value, c.from.ensures)
