use Rattle.amoebot_state.proofs.Counts.{zone_has_at_most_nine_bodies}
use Rattle.amoebot_state.proofs.laws.zone_has_at_most_nine_bodies.Goals as goal

pub returns : goal.returns
returns c = zone_has_at_most_nine_bodies
