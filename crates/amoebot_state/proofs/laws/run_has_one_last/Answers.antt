use Rattle.amoebot_state.proofs.Patched.{run_has_one_last}
use Rattle.amoebot_state.proofs.laws.run_has_one_last.Goals as goal

pub returns : goal.returns
returns c = run_has_one_last
