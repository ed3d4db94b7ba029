use Rattle.std.proofs.Common.{◌<◌, ℕ}
use Rattle.std.specs.Prelude.{slice_index_or}
use Rattle.amoebot_state.specs.Occupied.{occupied}
use Rattle.shape_checks.specs.Candidates.{candidates}
use Rattle.shape_checks.specs.Hexagons.{IsHexagonAt}
use Rattle.shape_checks.proofs.hexagon.has_centre.Given as goal

abbrev pub invariant-loop-centre : goal.invariant-loop-centre
invariant-loop-centre l = (k : ℕ) → k < l.centre-index → ¬ IsHexagonAt (occupied l.world) (slice_index_or (candidates l.ends l.radius) k l.ends.left) l.radius
