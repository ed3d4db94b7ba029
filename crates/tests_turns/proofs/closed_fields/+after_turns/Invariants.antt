use Rattle.tests_turns.proofs.closed_fields.+after_turns.Given as goal

abbrev pub decreases-after_turns : goal.decreases-after_turns
decreases-after_turns g l = l.callers
