use Rattle.std.proofs.Common.{◌≡◌, ◌≤◌, length, take}
use Rattle.ticket_commit.proofs.own.fill.Given as goal

abbrev pub invariant-loop-name : goal.invariant-loop-name
invariant-loop-name l = (l.patch ≡ take l.name-index l.cells) × (length l.patch ≤ l.name-index)
