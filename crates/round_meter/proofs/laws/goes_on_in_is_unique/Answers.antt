use Rattle.round_meter.proofs.TellingLemmas.{goes_on_in_is_unique}
use Rattle.round_meter.proofs.laws.goes_on_in_is_unique.Goals as goal

pub returns : goal.returns
returns g c = goes_on_in_is_unique c.plain_step_is_unique.ensures g.met.E.EntryForm.is_form
