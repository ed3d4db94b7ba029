use Rattle.action_check.specs.Told.{known_scope}
use Rattle.action_check.proofs.FaultLoops.{StmtsLeft}
use Rattle.action_check.proofs.statement.+statements.Given as goal

abbrev pub invariant-check_stmts-loop-stmt : goal.invariant-check_stmts-loop-stmt
invariant-check_stmts-loop-stmt l = StmtsLeft (known_scope l.fn.scope) (known_scope l.scope) l.stmts l.stmt-index
