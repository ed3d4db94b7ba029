use Rattle.claim_core.proofs.Unfolding.{ticket_steps_are_events}
use Rattle.claim_core.proofs.laws.ticket_steps_are_events.Goals as goal

pub returns : goal.returns
returns g = ticket_steps_are_events
