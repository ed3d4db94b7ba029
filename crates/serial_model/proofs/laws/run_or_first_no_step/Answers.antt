use Rattle.serial_model.proofs.Runs.{run_or_first_no_step}
use Rattle.serial_model.proofs.laws.run_or_first_no_step.Goals as goal

pub returns : goal.returns
returns g c = run_or_first_no_step g.met.E.EntryForm.is_form
