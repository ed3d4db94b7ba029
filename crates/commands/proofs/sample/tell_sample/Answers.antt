use Rattle.action_eval.proofs.SharedRunner.{runner_sync}
use Rattle.commands.proofs.sample.tell_sample.Goals as goal

pub print_sample-requires-sync-D : goal.print_sample-requires-sync-D
print_sample-requires-sync-D c κs = record { shared = runner_sync.shared }

pub print_sample-requires-clause-there : goal.print_sample-requires-clause-there
print_sample-requires-clause-there c κs = (c.good_is_few.ensures _ _ _ _ c.requires.good).bots
