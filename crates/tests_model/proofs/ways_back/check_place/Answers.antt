use Rattle.action_eval.proofs.SharedRunner.{runner_sync}
use Rattle.tests_model.proofs.ways_back.check_place.Goals as goal

pub rewind-requires-sync-D : goal.rewind-requires-sync-D
rewind-requires-sync-D c κs = record { shared = runner_sync.shared }
