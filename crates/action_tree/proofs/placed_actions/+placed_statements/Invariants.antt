use Rattle.action_tree.specs.PlacedScope.{placed_scope}
use Rattle.action_tree.proofs.PlacesLemmas.{AreStmtsPassed}
use Rattle.action_tree.proofs.placed_actions.+placed_statements.Given as goal

abbrev pub invariant-place_stmts-loop-stmt : goal.invariant-place_stmts-loop-stmt
invariant-place_stmts-loop-stmt l = record {
  unvisited : goal.unvisited-place_stmts-loop-stmt l;
  passed : AreStmtsPassed (placed_scope l.fn.scope) (placed_scope l.scope) l.fn.stmts l.stmts l.stmt-index;
}
