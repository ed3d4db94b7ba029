use Rattle.amoebot_state.proofs.Known.{next_is_new}
use Rattle.amoebot_state.proofs.laws.next_is_new.Goals as goal

pub returns : goal.returns
returns c = next_is_new
