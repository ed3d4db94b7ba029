use Rattle.commands.proofs.ElectExampleLemmas.{small_elections}
use Rattle.commands.proofs.laws.small_elections.Goals as goal

pub returns : goal.returns
returns c = small_elections
