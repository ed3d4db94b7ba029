use Rattle.std.proofs.Common.{◌≡◌, ◌≤◌, [], length}
use Rattle.std.specs.List.{All}
use Rattle.ticket_commit.specs.OwnLists.{OwnEntries}
use Rattle.ticket_commit.proofs.own.own_lists.Given as goal

abbrev pub invariant-loop-caller : goal.invariant-loop-caller
invariant-loop-caller l = (length l.lists.items ≡ l._caller) × All (λ (own : OwnEntries). (own.entries ≡ []) × (l.turns ≤ own.room)) l.lists.items
