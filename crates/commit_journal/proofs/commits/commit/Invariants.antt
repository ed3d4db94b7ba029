use Rattle.std.proofs.Common.{◌≡◌}
use Rattle.commit_journal.proofs.commits.commit.Given as goal

-- the claim and the change are as they were
abbrev pub invariant-loop : goal.invariant-loop
invariant-loop g l = (l.claimed ≡ l.fn.claimed) × (l.change ≡ l.fn.change)
