use Rattle.round_meter.proofs.RoundsLemmas.{rounds_are_unique}
use Rattle.round_meter.proofs.laws.rounds_are_unique.Goals as goal

pub returns : goal.returns
returns c = rounds_are_unique
