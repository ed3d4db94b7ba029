use Rattle.amoebot_state.proofs.Known.{known_grows_at_its_end}
use Rattle.amoebot_state.proofs.laws.known_grows_at_its_end.Goals as goal

pub returns : goal.returns
returns c = known_grows_at_its_end
