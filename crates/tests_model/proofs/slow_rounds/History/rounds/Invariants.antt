use Rattle.std.proofs.Common.{◌≤◌}
use Rattle.tests_model.proofs.slow_rounds.History.rounds.Given as goal

abbrev pub invariant-loop : goal.invariant-loop
invariant-loop l = record { few : l.rounds ≤ l.counter }
