use Rattle.amoebot_state.proofs.Known.{whole_zone_is_shown}
use Rattle.amoebot_state.proofs.laws.whole_zone_is_shown.Goals as goal

pub returns : goal.returns
returns c = whole_zone_is_shown
