use Rattle.outer_io.proofs.TornWritesLemmas.{small_writes}
use Rattle.outer_io.proofs.mem_sink.torn_writes.Goals as goal

pub returns : goal.returns
returns c = small_writes
