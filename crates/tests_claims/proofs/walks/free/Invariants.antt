use Rattle.std.proofs.Common.{length}
use Rattle.claim_rule.specs.Tokens.{IsOf, doing}
use Rattle.tests_claims.proofs.walks.free.Given as goal

abbrev pub invariant-loop-freeing : goal.invariant-loop-freeing
invariant-loop-freeing g l = IsOf l.field l.freeing

abbrev pub decreases-loop-freeing : goal.decreases-loop-freeing
decreases-loop-freeing g l = length (doing l.freeing).held
