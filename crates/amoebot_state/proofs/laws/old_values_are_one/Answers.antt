use Rattle.amoebot_state.proofs.OldValues.{old_values_are_one}
use Rattle.amoebot_state.proofs.laws.old_values_are_one.Goals as goal

pub returns : goal.returns
returns c = old_values_are_one
