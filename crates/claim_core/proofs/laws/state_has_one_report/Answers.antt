use Rattle.claim_core.proofs.Ends.{state_has_one_report}
use Rattle.claim_core.proofs.laws.state_has_one_report.Goals as goal

pub returns : goal.returns
returns c = state_has_one_report
