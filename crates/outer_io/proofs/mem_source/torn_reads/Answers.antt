use Rattle.outer_io.proofs.TornReadsLemmas.{small_reads}
use Rattle.outer_io.proofs.mem_source.torn_reads.Goals as goal

pub returns : goal.returns
returns c = small_reads
