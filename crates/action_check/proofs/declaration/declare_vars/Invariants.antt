use Rattle.action_check.specs.Told.{texts}
use Rattle.action_check.proofs.DeclarationLemmas.{VarsLeft}
use Rattle.action_check.proofs.declaration.declare_vars.Given as goal

abbrev pub invariant-loop-var : goal.invariant-loop-var
invariant-loop-var l = VarsLeft (texts l.fn.names.keys) l.vars (texts l.names.keys) l.var-index
