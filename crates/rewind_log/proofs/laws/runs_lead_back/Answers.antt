use Rattle.rewind_log.proofs.Backs.{runs_lead_back}
use Rattle.rewind_log.proofs.laws.runs_lead_back.Goals as goal

pub returns : goal.returns
returns c = runs_lead_back
