use Rattle.round_meter.proofs.RoundsLemmas.{round_is_unique}
use Rattle.round_meter.proofs.laws.round_is_unique.Goals as goal

pub returns : goal.returns
returns c = round_is_unique
