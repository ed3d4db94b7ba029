use Rattle.round_meter.proofs.TellingLemmas.{meters_tell_the_same}
use Rattle.round_meter.proofs.laws.meters_tell_the_same.Goals as goal

pub returns : goal.returns
returns c = meters_tell_the_same
