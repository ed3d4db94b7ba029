use Rattle.amoebot_state.proofs.FirstFaults.{faultless_has_no_fault}
use Rattle.amoebot_state.proofs.laws.faultless_has_no_fault.Goals as goal

pub returns : goal.returns
returns c = faultless_has_no_fault
