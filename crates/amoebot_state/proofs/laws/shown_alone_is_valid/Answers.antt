use Rattle.amoebot_state.proofs.Shows.{shown_valid}
use Rattle.amoebot_state.proofs.laws.shown_alone_is_valid.Goals as goal

pub returns : goal.returns
returns c = shown_valid
