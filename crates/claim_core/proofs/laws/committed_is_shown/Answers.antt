use Rattle.claim_core.proofs.Commitments.{committed_is_shown}
use Rattle.claim_core.proofs.laws.committed_is_shown.Goals as goal

pub returns : goal.returns
returns c = committed_is_shown
