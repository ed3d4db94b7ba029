use Rattle.claim_core.proofs.Unfolding.{ticket_reached_is_reached}
use Rattle.claim_core.proofs.laws.ticket_reached_is_reached.Goals as goal

pub returns : goal.returns
returns g = ticket_reached_is_reached
