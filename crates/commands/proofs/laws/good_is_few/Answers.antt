use Rattle.commands.proofs.ReportEntries.{good_is_few}
use Rattle.commands.proofs.laws.good_is_few.Goals as goal

pub returns : goal.returns
returns c = good_is_few
