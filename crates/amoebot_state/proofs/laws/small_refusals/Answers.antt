use Rattle.amoebot_state.proofs.FirstFaults.{small_refusals}
use Rattle.amoebot_state.proofs.laws.small_refusals.Goals as goal

pub returns : goal.returns
returns c = small_refusals
