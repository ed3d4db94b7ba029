use Rattle.std.proofs.Common.{◌≡◌, drop}
use Rattle.action_tree.specs.Productions.{names_left_after_all}
use Rattle.action_tree.specs.Views.{stmts_of}
use Rattle.action_parser.proofs.statement.names_behind.Given as goal

-- the rest of the statements leaves as many
abbrev pub invariant-loop-stmt : goal.invariant-loop-stmt
invariant-loop-stmt l = names_left_after_all l.fn.names (stmts_of l.stmts) ≡ names_left_after_all l.left (stmts_of (drop l.stmt-index l.stmts))
