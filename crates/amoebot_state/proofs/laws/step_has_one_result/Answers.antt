use Rattle.amoebot_state.proofs.Patched.{step_has_one_result}
use Rattle.amoebot_state.proofs.laws.step_has_one_result.Goals as goal

pub returns : goal.returns
returns c = step_has_one_result
