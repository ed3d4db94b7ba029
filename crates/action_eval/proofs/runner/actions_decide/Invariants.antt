use Rattle.std.proofs.Common.{◌≡◌}
use Rattle.action_eval.specs.Known.{known}
use Rattle.action_eval.proofs.ActionLoops.{ActionsLeft}
use Rattle.action_eval.proofs.runner.actions_decide.Given as goal

abbrev pub invariant-loop-number : goal.invariant-loop-number
invariant-loop-number l = ActionsLeft l.guard (known l.names) l.fn.site l.actions l.number × (l.site ≡ l.fn.site)
