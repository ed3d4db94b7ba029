use Rattle.amoebot_state.proofs.Known.{none_is_outside_the_zone}
use Rattle.amoebot_state.proofs.laws.none_is_outside_the_zone.Goals as goal

pub returns : goal.returns
returns c = none_is_outside_the_zone
