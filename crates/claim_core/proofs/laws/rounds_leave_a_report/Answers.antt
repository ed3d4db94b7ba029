use Rattle.claim_core.proofs.ReportsExist.{rounds_leave_a_report}
use Rattle.claim_core.proofs.laws.rounds_leave_a_report.Goals as goal

pub returns : goal.returns
returns c = rounds_leave_a_report
