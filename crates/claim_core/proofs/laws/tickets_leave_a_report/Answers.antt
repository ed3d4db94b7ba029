use Rattle.claim_core.proofs.TicketRanks.{tickets_leave_a_report}
use Rattle.claim_core.proofs.laws.tickets_leave_a_report.Goals as goal

pub returns : goal.returns
returns g = tickets_leave_a_report
