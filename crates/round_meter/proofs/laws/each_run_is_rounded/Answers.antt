use Rattle.round_meter.proofs.MeterLemmas.{each_run_is_rounded}
use Rattle.round_meter.proofs.laws.each_run_is_rounded.Goals as goal

pub returns : goal.returns
returns c = each_run_is_rounded
