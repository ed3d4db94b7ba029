use Rattle.std.proofs.Common.{◌≡◌, length}
use Rattle.tests_claims.proofs.walks.steps.Given as goal

abbrev pub invariant-loop-step : goal.invariant-loop-step
invariant-loop-step l = length l.core.state.callers ≡ 2
