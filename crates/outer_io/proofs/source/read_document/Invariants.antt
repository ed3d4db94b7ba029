use Rattle.std.proofs.Common.{vec_len, ◌-◌, ◌≤◌}
use Rattle.std.specs.Io.KnownBytes.{Consumes}
use Rattle.outer_io.specs.Calls.{Passed}
use Rattle.outer_io.proofs.source.read_document.Given as goal

-- the bytes that were got are kept, no more than the limit, and no fault was taken back
abbrev pub invariant-reads : goal.invariant-reads
invariant-reads g l = record {
  got : Consumes (g.S.Source.left l.initial.source) (g.S.Source.left l.source) l.bytes.items;
  reads : Passed g.S.Source.gives l.initial.source l.bytes.items l.source;
  within : vec_len l.bytes ≤ l.limit;
  never_falls : g.S.Source.faults l.initial.source ≤ g.S.Source.faults l.source;
}

abbrev pub decreases-reads : goal.decreases-reads
decreases-reads g l = l.limit - vec_len l.bytes
