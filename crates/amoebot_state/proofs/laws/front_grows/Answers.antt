use Rattle.amoebot_state.proofs.Known.{front_grows}
use Rattle.amoebot_state.proofs.laws.front_grows.Goals as goal

pub returns : goal.returns
returns c = front_grows
