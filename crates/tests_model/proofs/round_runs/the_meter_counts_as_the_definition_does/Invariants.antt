use Rattle.std.proofs.Common.{◌≤◌, ◌*◌}
use Rattle.tests_model.proofs.round_runs.the_meter_counts_as_the_definition_does.Given as goal

abbrev pub invariant-loop-text : goal.invariant-loop-text
invariant-loop-text g l = record { few : l.entries ≤ 1440 * l.text-index }
