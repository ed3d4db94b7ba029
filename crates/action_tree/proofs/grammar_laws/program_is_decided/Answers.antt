use Rattle.text_tokens.proofs.CombinatorLemmas.{decided}
use Rattle.action_tree.specs.Expressions.{IsExpr}
use Rattle.action_tree.specs.Statements.{IsStmts}
use Rattle.action_tree.specs.Programs.{IsProgram}
use Rattle.action_tree.specs.ExpressionReaders.{expr_at}
use Rattle.action_tree.specs.StatementReaders.{stmts_at}
use Rattle.action_tree.specs.ProgramReaders.{a_program}
use Rattle.action_tree.proofs.ExpressionLaws.{exact_expr}
use Rattle.action_tree.proofs.StatementLaws.{exact_stmts}
use Rattle.action_tree.proofs.ProgramLaws.{exact_program}
use Rattle.action_tree.proofs.grammar_laws.program_is_decided.Goals as goal

pub returns-clause-program : goal.returns-clause-program
returns-clause-program c = decided IsProgram a_program exact_program

pub returns-clause-expressions : goal.returns-clause-expressions
returns-clause-expressions c = λ n left. decided (IsExpr n left) (expr_at n left) (exact_expr n left)

pub returns-clause-statements : goal.returns-clause-statements
returns-clause-statements c = λ n left. decided (IsStmts n left) (stmts_at n left) (exact_stmts n left)
