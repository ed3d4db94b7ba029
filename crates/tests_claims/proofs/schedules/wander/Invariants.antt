use Rattle.std.proofs.Common.{◌≡◌, length}
use Rattle.tests_claims.proofs.schedules.wander.Given as goal

abbrev pub invariant-loop-burst : goal.invariant-loop-burst
invariant-loop-burst g l = length l.core.state.callers ≡ l.callers

abbrev pub invariant-loop-step : goal.invariant-loop-step
invariant-loop-step g l = length l.core.state.callers ≡ l.callers
