use Rattle.round_meter.proofs.MeterLemmas.{meter_tells_rounds}
use Rattle.round_meter.proofs.laws.meter_tells_rounds.Goals as goal

pub returns : goal.returns
returns c = meter_tells_rounds
