use Rattle.std.proofs.Common.{[]}
use Rattle.action_check.specs.Told.{texts}
use Rattle.action_check.proofs.DeclarationLemmas.{ActionsLeft}
use Rattle.action_check.proofs.declaration.declare_actions.Given as goal

abbrev pub invariant-loop-action : goal.invariant-loop-action
invariant-loop-action l = ActionsLeft (record { vars = texts l.vars.keys; bound = [] }) (texts l.fn.names.keys) l.actions (texts l.names.keys) l.action-index
