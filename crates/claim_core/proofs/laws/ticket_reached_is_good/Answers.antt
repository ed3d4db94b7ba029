use Rattle.claim_core.proofs.Unfolding.{ticket_reached_is_good}
use Rattle.claim_core.proofs.laws.ticket_reached_is_good.Goals as goal

pub returns : goal.returns
returns g = ticket_reached_is_good
