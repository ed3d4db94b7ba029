use Rattle.rewind_log.proofs.Backs.{last_no_step_is_unique}
use Rattle.rewind_log.proofs.laws.last_no_step_is_unique.Goals as goal

pub returns : goal.returns
returns c = last_no_step_is_unique
