use Rattle.std.specs.Prelude.{take}
use Rattle.commands.proofs.laws.good_stays_connected.Goals as goal

pub returns : goal.returns
returns c = λ p start lists report good on connected place world is. c.program_runs_stay_connected.ensures.runs p start (take place report.journal.entries) world on good.valid is.reached connected
