use Rattle.std.proofs.Common.{◌∙◌, sym}
use Rattle.tri_lattice.proofs.Rings.{ring_inside, amid_of_ring}
use Rattle.tri_lattice.proofs.area.Area.has_ring.Goals as goal

pub returns : goal.returns
returns c = (
  λ t. ring_inside c.args.self.now c.args.node (sym c.is_amid.ensures ∙ t),
  λ all. c.is_amid.ensures ∙ amid_of_ring c.args.self.now c.args.node all,
)
