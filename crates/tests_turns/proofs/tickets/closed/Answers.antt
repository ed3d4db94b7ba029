use Rattle.claim_rule.proofs.Places.{all_there}
use Rattle.tests_turns.proofs.tickets.closed.Goals as goal

pub close-requires-clause-all : goal.close-requires-clause-all
close-requires-clause-all g c κs = all_there _ _ c.in_ok-with_both_seats.ensures.there c.requires.all
