use Rattle.amoebot_state.proofs.FirstFaults.{small_faults}
use Rattle.amoebot_state.proofs.laws.small_faults.Goals as goal

pub returns : goal.returns
returns c = small_faults
