use Rattle.std.proofs.Common.{◌≡◌, length}
use Rattle.tests_claims.specs.Walks.{IsWalker}
use Rattle.tests_claims.proofs.walks.walked.Given as goal

abbrev pub invariant-loop-step : goal.invariant-loop-step
invariant-loop-step g l = IsWalker l.field l.walkers.0 × IsWalker l.field l.walkers.1 × (length l.core.state.callers ≡ 2)
