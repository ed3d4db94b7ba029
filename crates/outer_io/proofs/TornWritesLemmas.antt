-- Writes of four bytes to a room of three, of which one fails.
use Rattle.std.proofs.Common.{inl, inr, arith}
use Rattle.outer_io.specs.MemWrites.{TornWrites, fails, takes}
use Rattle.outer_io.proofs.CallPlansLemmas.{listed, unlisted}

pub small_writes : TornWrites
small_writes = record {
  two = takes (unlisted 1 0 (λ same. absurd (omega (arith, same)))) (omega arith);
  fault = fails (inl (listed 1));
  last = takes (unlisted 1 2 (λ same. absurd (omega (arith, same)))) (omega arith);
  full = fails (inr (omega arith));
}
