use Rattle.std.proofs.Common.{◌≤◌}
use Rattle.tests_model.proofs.round_runs.take_turns.Given as goal

abbrev pub invariant-loop : goal.invariant-loop
invariant-loop g l = record {
  fed : l.meter.state.fed ≤ l.counter;
  few : l.entries ≤ l.counter;
}
