use Rattle.rewind_log.proofs.StepBacks.{step_back_or_none}
use Rattle.rewind_log.proofs.laws.step_back_or_none.Goals as goal

pub returns : goal.returns
returns c = step_back_or_none
