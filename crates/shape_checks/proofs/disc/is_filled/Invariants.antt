use Rattle.std.proofs.Common.{◌<◌, pos, ◌+ℤ◌, ◌-ℤ◌, ◌<ℤ◌}
use Rattle.std.specs.Prelude.{IsTrue}
use Rattle.tri_lattice.specs.declared.node.Node.{Node}
use Rattle.tri_lattice.specs.Lattice.{distance}
use Rattle.amoebot_state.specs.Occupied.{occupied}
use Rattle.shape_checks.proofs.disc.is_filled.Given as goal

abbrev pub invariant-loop-up : goal.invariant-loop-up
invariant-loop-up l = (v : Node) → v.y <ℤ (l.centre.y -ℤ pos l.radius +ℤ pos l.up) → distance l.centre v < l.radius → IsTrue (occupied l.world v)
