use Rattle.serial_model.proofs.Runs.{run_has_only_steps}
use Rattle.serial_model.proofs.laws.run_has_only_steps.Goals as goal

pub returns : goal.returns
returns g c = run_has_only_steps g.met.E.EntryForm.is_form
