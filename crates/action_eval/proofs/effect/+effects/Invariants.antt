use Rattle.action_tree.specs.Views.{name_of, guard_of, stmts_of}
use Rattle.action_eval.specs.Known.{known}
use Rattle.action_eval.specs.Running.{turn_effect}
use Rattle.action_eval.proofs.RunningLemmas.{StmtsLeft, PortsLeft}
use Rattle.action_eval.proofs.effect.+effects.Given as goal

abbrev pub invariant-run_for-loop-port : goal.invariant-run_for-loop-port
invariant-run_for-loop-port l = PortsLeft (λ i. turn_effect i (name_of l.name) (guard_of l.guard) (stmts_of l.stmts)) l.fn.site l.port-items l.port-index l.site (known l.names)

abbrev pub invariant-run_stmts-loop-stmt : goal.invariant-run_stmts-loop-stmt
invariant-run_stmts-loop-stmt l = StmtsLeft l.fn.site (known l.fn.names) l.stmts l.stmt-index l.site (known l.names)
