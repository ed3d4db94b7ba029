use Rattle.small_worlds.proofs.Tickets.{small_tickets}
use Rattle.small_worlds.proofs.laws.small_tickets.Goals as goal

pub returns : goal.returns
returns c = small_tickets
