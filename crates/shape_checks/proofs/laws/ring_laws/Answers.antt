use Rattle.shape_checks.proofs.Circles.{two_runs_are_no_arc}
use Rattle.shape_checks.proofs.Rings.{ring_is_its_distance, next_places_meet}
use Rattle.shape_checks.proofs.laws.ring_laws.Goals as goal

pub returns : goal.returns
returns c = record { distance = ring_is_its_distance; next = next_places_meet; runs = two_runs_are_no_arc }
