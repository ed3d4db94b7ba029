use Rattle.rewind_log.proofs.StepBacks.{step_back_is_unique}
use Rattle.rewind_log.proofs.laws.step_back_is_unique.Goals as goal

pub returns : goal.returns
returns c = step_back_is_unique
