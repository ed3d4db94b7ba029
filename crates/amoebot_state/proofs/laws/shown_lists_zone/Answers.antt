use Rattle.amoebot_state.proofs.Known.{shown_lists_zone}
use Rattle.amoebot_state.proofs.laws.shown_lists_zone.Goals as goal

pub returns : goal.returns
returns c = shown_lists_zone
