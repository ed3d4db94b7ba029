use Rattle.amoebot_state.proofs.Shows.{shown_alone_has_the_zone}
use Rattle.amoebot_state.proofs.laws.shown_alone_has_the_zone.Goals as goal

pub returns : goal.returns
returns c = shown_alone_has_the_zone
