use Rattle.action_eval.proofs.SharedRunner.{runner_sync}
use Rattle.tests_run.proofs.reports.is_report_of.Goals as goal

pub is_report-requires-sync-D : goal.is_report-requires-sync-D
is_report-requires-sync-D c κs = record { shared = runner_sync.shared }
