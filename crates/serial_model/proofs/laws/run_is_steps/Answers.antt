use Rattle.serial_model.proofs.Runs.{run_is_steps}
use Rattle.serial_model.proofs.laws.run_is_steps.Goals as goal

pub returns : goal.returns
returns g c = run_is_steps g.E.EntryForm.form
