use Rattle.std.proofs.Common.{◌≤◌, ◌*◌}
use Rattle.tests_model.proofs.round_runs.check_program.Given as goal

abbrev pub invariant-loop-seed : goal.invariant-loop-seed
invariant-loop-seed g l = record { few : l.entries ≤ 40 * l.seed }
