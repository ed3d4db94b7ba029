use Rattle.claim_rule.proofs.Places.{all_there}
use Rattle.tests_turns.proofs.closed_fields.closed.Goals as goal

pub close-requires-clause-all : goal.close-requires-clause-all
close-requires-clause-all g c κs within = all_there _ _ c.in_ok-after_turns.ensures.there c.requires.all
