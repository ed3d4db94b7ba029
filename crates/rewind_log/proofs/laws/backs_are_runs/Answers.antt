use Rattle.rewind_log.proofs.Backs.{backs_are_runs}
use Rattle.rewind_log.proofs.laws.backs_are_runs.Goals as goal

pub returns : goal.returns
returns c = backs_are_runs
