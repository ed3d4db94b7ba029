use Rattle.amoebot_state.proofs.Faults.{valid_is_faultless}
use Rattle.amoebot_state.proofs.laws.valid_is_faultless.Goals as goal

pub returns : goal.returns
returns c = valid_is_faultless
