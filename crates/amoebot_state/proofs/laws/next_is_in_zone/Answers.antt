use Rattle.amoebot_state.proofs.Known.{next_is_in_zone}
use Rattle.amoebot_state.proofs.laws.next_is_in_zone.Goals as goal

pub returns : goal.returns
returns c = next_is_in_zone
