use Rattle.std.proofs.Common.{◌≡◌, ◌-◌}
use Rattle.claim_core.specs.Limits.{most_turns}
use Rattle.claim_rule.proofs.held.win_node.Given as goal

abbrev pub invariant-loop-more : goal.invariant-loop-more
invariant-loop-more g l = (l.noted.claim ≡ l.fn.held) × (l.noted.node ≡ l.fn.node)

-- how many stamps are left
abbrev pub decreases-loop-more : goal.decreases-loop-more
decreases-loop-more g l = most_turns - l.noted.stamp
