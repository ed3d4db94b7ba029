-- Reads of three bytes, of which one fails.
use Rattle.std.proofs.Common.{arith}
use Rattle.outer_io.specs.MemReads.{TornReads, fails, gives}
use Rattle.outer_io.proofs.CallPlansLemmas.{listed, unlisted}

pub small_reads : TornReads
small_reads = record {
  two = gives (unlisted 1 0 (λ same. absurd (omega (arith, same))));
  fault = fails (listed 1);
  last = gives (unlisted 1 2 (λ same. absurd (omega (arith, same))));
  end = gives (unlisted 1 3 (λ same. absurd (omega (arith, same))));
}
