use Rattle.amoebot_state.proofs.Values.{same_value_is_equality}
use Rattle.amoebot_state.proofs.laws.same_value_is_equality.Goals as goal

pub returns : goal.returns
returns c = same_value_is_equality
