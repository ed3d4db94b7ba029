use Rattle.serial_model.proofs.Runs.{first_no_step_is_unique}
use Rattle.serial_model.proofs.laws.first_no_step_is_unique.Goals as goal

pub returns : goal.returns
returns g c = first_no_step_is_unique g.met.E.EntryForm.is_form
