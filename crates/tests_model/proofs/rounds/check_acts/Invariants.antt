use Rattle.std.proofs.Common.{◌≤◌}
use Rattle.tests_model.proofs.rounds.check_acts.Given as goal

abbrev pub invariant-loop-number : goal.invariant-loop-number
invariant-loop-number g l = record { fed : l.meter.state.fed ≤ l.number-counter }
