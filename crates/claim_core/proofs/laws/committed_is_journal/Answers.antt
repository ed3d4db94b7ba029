use Rattle.claim_core.proofs.Commitments.{committed_is_journal}
use Rattle.claim_core.proofs.laws.committed_is_journal.Goals as goal

pub returns : goal.returns
returns c = committed_is_journal
