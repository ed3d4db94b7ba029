use Rattle.model_ops.specs.WorkingCopies.{IsUnmoved}
use Rattle.tests_model.proofs.operations.activation.Given as goal

abbrev pub invariant-loop-port : goal.invariant-loop-port
invariant-loop-port l = IsUnmoved l.site
