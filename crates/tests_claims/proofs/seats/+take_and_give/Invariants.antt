use Rattle.tests_claims.proofs.seats.+take_and_give.Given as goal

abbrev pub decreases-take_and_give : goal.decreases-take_and_give
decreases-take_and_give g l = l.left
