use Rattle.round_meter.proofs.TellingLemmas.{goes_on_with_is_unique}
use Rattle.round_meter.proofs.laws.goes_on_with_is_unique.Goals as goal

pub returns : goal.returns
returns c = goes_on_with_is_unique
