use Rattle.amoebot_state.proofs.FirstFaults.{first_refusal_is_unique}
use Rattle.amoebot_state.proofs.laws.first_refusal_is_unique.Goals as goal

pub returns : goal.returns
returns c = first_refusal_is_unique
