use Rattle.small_worlds.proofs.Rows.{small_interleaving}
use Rattle.small_worlds.proofs.laws.small_interleaving.Goals as goal

pub returns : goal.returns
returns c = small_interleaving
