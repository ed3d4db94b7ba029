use Rattle.claim_core.proofs.TicketRanks.{tickets_wait_for_nobody}
use Rattle.claim_core.proofs.laws.tickets_wait_for_nobody.Goals as goal

pub returns : goal.returns
returns g = tickets_wait_for_nobody
