use Rattle.rewind_log.proofs.Backs.{back_or_last_no_step}
use Rattle.rewind_log.proofs.laws.back_or_last_no_step.Goals as goal

pub returns : goal.returns
returns c = back_or_last_no_step
