use Rattle.amoebot_state.proofs.Zones.{zone_is_determined}
use Rattle.amoebot_state.proofs.laws.zone_is_determined.Goals as goal

pub returns : goal.returns
returns c = zone_is_determined
