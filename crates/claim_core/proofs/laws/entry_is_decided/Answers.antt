use Rattle.claim_core.proofs.Ends.{entry_is_decided}
use Rattle.claim_core.proofs.laws.entry_is_decided.Goals as goal

pub returns : goal.returns
returns c = entry_is_decided
