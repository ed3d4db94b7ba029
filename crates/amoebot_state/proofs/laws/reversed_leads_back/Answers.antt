use Rattle.amoebot_state.proofs.Reversed.{reversed_leads_back}
use Rattle.amoebot_state.proofs.laws.reversed_leads_back.Goals as goal

pub returns : goal.returns
returns c = reversed_leads_back
