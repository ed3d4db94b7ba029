use Rattle.claim_core.proofs.Unfolding.{tickets_hold_no_journal}
use Rattle.claim_core.proofs.laws.tickets_hold_no_journal.Goals as goal

pub returns : goal.returns
returns g = tickets_hold_no_journal
