use Rattle.action_check.specs.Told.{known_scope}
use Rattle.action_check.proofs.FaultLoops.{GuardsLeft, PartsLeft}
use Rattle.action_check.proofs.expression.+expressions.Given as goal

abbrev pub invariant-check_guards-loop-guard : goal.invariant-check_guards-loop-guard
invariant-check_guards-loop-guard l = GuardsLeft (known_scope l.scope) l.guards l.guard-index

abbrev pub invariant-check_sum-loop-part : goal.invariant-check_sum-loop-part
invariant-check_sum-loop-part l = PartsLeft (known_scope l.scope) l.part-items l.part-index
