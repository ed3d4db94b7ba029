use Rattle.commands.proofs.TaskLemmas.{task_is_one}
use Rattle.commands.proofs.laws.task_is_one.Goals as goal

pub returns : goal.returns
returns c = task_is_one c.least_versions_are_kept.ensures.decided c.owed_is_one.ensures
