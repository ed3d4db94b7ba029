use Rattle.claim_core.proofs.Unfolding.{tickets_are_claims}
use Rattle.claim_core.proofs.laws.tickets_are_claims.Goals as goal

pub returns : goal.returns
returns g = tickets_are_claims
