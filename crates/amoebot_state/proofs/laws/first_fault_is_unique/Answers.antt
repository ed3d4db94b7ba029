use Rattle.amoebot_state.proofs.FirstFaults.{first_fault_is_unique}
use Rattle.amoebot_state.proofs.laws.first_fault_is_unique.Goals as goal

pub returns : goal.returns
returns c = first_fault_is_unique
