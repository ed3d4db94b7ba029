use Rattle.amoebot_state.proofs.FirstFaults.{lawful_has_no_refusal}
use Rattle.amoebot_state.proofs.laws.lawful_has_no_refusal.Goals as goal

pub returns : goal.returns
returns c = lawful_has_no_refusal
