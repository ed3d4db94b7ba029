use Rattle.claim_core.proofs.Ends.{reached_is_good}
use Rattle.claim_core.proofs.laws.reached_is_good.Goals as goal

pub returns : goal.returns
returns c = reached_is_good
