use Rattle.serial_model.proofs.Runs.{plain_step_is_unique}
use Rattle.serial_model.proofs.laws.plain_step_is_unique.Goals as goal

pub returns : goal.returns
returns c = plain_step_is_unique
