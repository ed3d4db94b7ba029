use Rattle.amoebot_state.proofs.Known.{known_is_front}
use Rattle.amoebot_state.proofs.laws.known_is_front.Goals as goal

pub returns : goal.returns
returns c = known_is_front
