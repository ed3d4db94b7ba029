use Rattle.action_eval.proofs.SharedRunner.{runner_sync}
use Rattle.tests_model.proofs.crowds.check_text.Goals as goal

pub new-decider-requires-sync-D : goal.new-decider-requires-sync-D
new-decider-requires-sync-D g c κs = record { shared = runner_sync.shared }

pub check_crowd-requires-sync-D : goal.check_crowd-requires-sync-D
check_crowd-requires-sync-D g c κs outlives = record { shared = runner_sync.shared }
