use Rattle.std.proofs.Common.{◌≡◌, ◌≤◌}
use Rattle.ring_guard.specs.Rings.{ring_entry}
use Rattle.ring_guard.proofs.Tables.{some_below, ends_below}
use Rattle.ring_guard.proofs.one_arc.Given as goal

-- what was found in the directions below i
abbrev pub invariant-loop-i : goal.invariant-loop-i
invariant-loop-i l = record {
  some : l.some ≡ some_below l.i (ring_entry l.ring);
  ends : l.ends ≡ ends_below l.ring l.i;
  few : l.ends ≤ l.i;
}
