use Rattle.std.proofs.Common.{◌≡◌, ◌<◌, pos, ◌+ℤ◌, ◌-ℤ◌, ◌<ℤ◌}
use Rattle.std.specs.Prelude.{IsTrue}
use Rattle.tri_lattice.specs.declared.node.Node.{Node}
use Rattle.tri_lattice.specs.Lattice.{distance}
use Rattle.amoebot_state.specs.Occupied.{occupied}
use Rattle.shape_checks.proofs.disc.is_row_filled.Given as goal

abbrev pub invariant-loop-right : goal.invariant-loop-right
invariant-loop-right l = (v : Node) → v.y ≡ l.y → v.x <ℤ (l.centre.x -ℤ pos l.radius +ℤ pos l.right) → distance l.centre v < l.radius → IsTrue (occupied l.world v)
