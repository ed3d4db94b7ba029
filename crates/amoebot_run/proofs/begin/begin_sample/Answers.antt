use Rattle.std.proofs.Common.{refl}
use Rattle.commands.specs.Reads.{nothing}
use Rattle.amoebot_run.specs.Parts.{is_to_run}
use Rattle.amoebot_run.proofs.Parts.{without_begun}
use Rattle.amoebot_run.proofs.begin.begin_sample.Goals as goal

pub returns-in-Ok : goal.returns-in-Ok
returns-in-Ok c = is_to_run c.in-Ok.prepared nothing tt refl tt c.in-Ok.ensures

pub returns-in-Err : goal.returns-in-Err
returns-in-Err c = without_begun _ nothing _ c.end_with.ensures refl tt tt
