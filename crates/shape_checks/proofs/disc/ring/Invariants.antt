use Rattle.std.proofs.Common.{◌≡◌, ◌<◌, ℕ, length}
use Rattle.amoebot_state.specs.Occupied.{occupied}
use Rattle.shape_checks.specs.Arcs.{circle_entry}
use Rattle.shape_checks.specs.Hexagons.{ring_node}
use Rattle.shape_checks.proofs.disc.ring.Given as goal

abbrev pub invariant-loop-k : goal.invariant-loop-k
invariant-loop-k l = (length l.ring.items ≡ l.k) × ((j : ℕ) → j < l.k → circle_entry l.ring.items j ≡ occupied l.world (ring_node l.centre l.radius j))
