use Rattle.std.proofs.Common.{length, take, ◌-◌, ◌≡◌, ◌≤◌}
use Rattle.outer_io.specs.Told.{Grows}
use Rattle.outer_io.specs.Writings.{Handed}
use Rattle.outer_io.proofs.sink.write_all.Given as goal

-- the bytes before `from` were written, by no write where there are none, and no fault was taken back
abbrev pub invariant-loop-from : goal.invariant-loop-from
invariant-loop-from g l = record {
  in_range : l.from ≤ length l.bytes;
  front : Grows (g.K.Sink.written l.initial.sink) (g.K.Sink.written l.sink) (take l.from l.bytes);
  writes : Handed g.K.Sink.takes l.initial.sink l.bytes l.from l.sink;
  nothing : l.from ≡ 0 → l.sink ≡ l.initial.sink;
  never_falls : g.K.Sink.faults l.initial.sink ≤ g.K.Sink.faults l.sink;
}

abbrev pub decreases-loop-from : goal.decreases-loop-from
decreases-loop-from g l = length l.bytes - l.from
