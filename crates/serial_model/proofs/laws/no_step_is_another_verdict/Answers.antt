use Rattle.serial_model.proofs.Runs.{no_step_is_another_verdict}
use Rattle.serial_model.proofs.laws.no_step_is_another_verdict.Goals as goal

pub returns : goal.returns
returns g c = no_step_is_another_verdict g.met.E.EntryForm.is_form
