use Rattle.std.proofs.Common.{◌≡◌, length}
use Rattle.claim_rule.specs.Tokens.{IsOf, doing}
use Rattle.node_claims.specs.Claims.{freed_all}
use Rattle.node_claims.proofs.claims.free_all.Given as goal

abbrev pub invariant-loop-freeing : goal.invariant-loop-freeing
invariant-loop-freeing g l = IsOf l.fn.field l.freeing × (freed_all g.D.Decider.verdict l.freeing ≡ freed_all g.D.Decider.verdict l.fn.freeing)

abbrev pub decreases-loop-freeing : goal.decreases-loop-freeing
decreases-loop-freeing g l = length (doing l.freeing).held
