use Rattle.action_eval.proofs.SharedRunner.{runner_sync}
use Rattle.tests_commands.proofs.rounds.table_of.Goals as goal

pub of-requires-sync-D : goal.of-requires-sync-D
of-requires-sync-D c κs = record { shared = runner_sync.shared }
