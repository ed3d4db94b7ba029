use Rattle.amoebot_state.proofs.Faults.{faultless_is_valid}
use Rattle.amoebot_state.proofs.laws.faultless_is_valid.Goals as goal

pub returns : goal.returns
returns c = faultless_is_valid
