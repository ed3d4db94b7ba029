use Rattle.amoebot_state.proofs.Known.{front_stands}
use Rattle.amoebot_state.proofs.laws.front_stands.Goals as goal

pub returns : goal.returns
returns c = front_stands
