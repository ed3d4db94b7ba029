use Rattle.action_eval.proofs.SharedRunner.{runner_sync}
use Rattle.tests_model.proofs.ways_back.turn_of.Goals as goal

pub activate-requires-sync-D : goal.activate-requires-sync-D
activate-requires-sync-D c κs = record { shared = runner_sync.shared }
