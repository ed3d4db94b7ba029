use Rattle.std.proofs.Common.{◌≡◌, length}
use Rattle.tests_turns.proofs.machine.step_callers.Given as goal

abbrev pub invariant-loop-caller : goal.invariant-loop-caller
invariant-loop-caller g l = length l.core.state.callers ≡ l.callers

abbrev pub invariant-loop-step : goal.invariant-loop-step
invariant-loop-step g l = length l.core.state.callers ≡ l.callers
