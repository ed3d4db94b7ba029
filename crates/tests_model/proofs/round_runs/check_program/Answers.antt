use Rattle.action_eval.proofs.SharedRunner.{runner_sync}
use Rattle.tests_model.proofs.round_runs.check_program.Goals as goal

pub check_run-requires-sync-D : goal.check_run-requires-sync-D
check_run-requires-sync-D g c κs outlives = record { shared = runner_sync.shared }
