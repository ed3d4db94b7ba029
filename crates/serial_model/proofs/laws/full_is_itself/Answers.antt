use Rattle.serial_model.proofs.Runs.{full_is_itself}
use Rattle.serial_model.proofs.laws.full_is_itself.Goals as goal

pub returns : goal.returns
returns c = full_is_itself
