use Rattle.std.proofs.Common.{◌≡◌, length}
use Rattle.tests_claims.proofs.tables.Stands.follow.Given as goal

abbrev pub invariant-loop-step : goal.invariant-loop-step
invariant-loop-step g l = length l.core.state.callers ≡ l.callers

abbrev pub invariant-loop-steps : goal.invariant-loop-steps
invariant-loop-steps g l = length l.core.state.callers ≡ l.callers
