use Rattle.outer_io.proofs.SmallWritingsLemmas.{small_writings}
use Rattle.outer_io.proofs.sink.writes_are_handed.Goals as goal

pub returns : goal.returns
returns c = small_writings
