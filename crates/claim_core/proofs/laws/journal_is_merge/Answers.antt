use Rattle.claim_core.proofs.TicketLists.{journal_is_merge}
use Rattle.claim_core.proofs.laws.journal_is_merge.Goals as goal

pub returns : goal.returns
returns g = journal_is_merge
