use Rattle.std.proofs.Common.{◌≤◌}
use Rattle.tests_model.proofs.elections.first_difference.Given as goal

abbrev pub invariant-loop-number : goal.invariant-loop-number
invariant-loop-number l = record { few : l.election.steps ≤ l.number }
