use Rattle.std.proofs.Common.{◌≡◌}
use Rattle.ticket_commit.specs.OwnLists.{entry_lists}
use Rattle.ticket_commit.proofs.MergeSteps.{IsMerging}
use Rattle.ticket_commit.proofs.merge.merge.Given as goal

-- what is left of the merge is in the lists, and what is not is in the journal and in the world
abbrev pub invariant-loop-caller : goal.invariant-loop-caller
invariant-loop-caller g l =
    (l.journal.first ≡ l.fn.journal.first)
    × IsMerging (g.D.Decider.verdict l._decider) (entry_lists l.fn.lists) l.fn.world l.fn.journal.entries (entry_lists l.lists) l.place l.journal.spare l.world l.journal.entries

abbrev pub decreases-loop-caller : goal.decreases-loop-caller
decreases-loop-caller g l = l.journal.spare
