use Rattle.amoebot_state.proofs.OldValues.{diff_leads}
use Rattle.amoebot_state.proofs.laws.diff_leads.Goals as goal

pub returns : goal.returns
returns c = diff_leads
