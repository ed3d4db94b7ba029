use Rattle.std.proofs.Common.{Vec, sym, ◌∙◌}
use Rattle.std.specs.declared.alloc.Global.{Global}
use Rattle.std.proofs.lemmas.Result.{err_from_is_err_and}
use Rattle.action_tree.specs.declared.statement.Stmt.{Stmt}
use Rattle.action_tree.specs.Trees as tree
use Rattle.action_tree.specs.Views.{stmts_of}
use Rattle.action_tree.specs.declared.role.Role.TheVariants.{DoWord}
use Rattle.action_tree.specs.Roles.{is_a}
use Rattle.action_tree.specs.StatementReaders.{stmts_at}
use Rattle.action_parser.proofs.Behind.{left_out, word_fails, behind_word}
use Rattle.action_parser.proofs.statement.read_body.Goals as goal

pub returns-then-not-is_next : goal.returns-then-not-is_next
returns-then-not-is_next c = rw c.new.ensures.items (left_out (is_a DoWord) tree.no_stmts (stmts_at c.args.levels c.args.names) c.args.tokens.now (sym c.is_next.ensures ∙ c.if-not-is_next.true))

pub returns-in_err-token : goal.returns-in_err-token
returns-in_err-token c =
    let p = err_from_is_err_and c.from_residual.result c.from_residual.ensures.1 in
    rw (p.1, p.2) (word_fails (is_a DoWord) tree.no_stmts (stmts_at c.args.levels c.args.names) c.args.tokens.now (sym c.is_next.ensures ∙ c.if-not-is_next.false) c.in_err-token.field-0.0 c.in_err-token.ensures.reads)

pub returns : goal.returns
returns c = behind_word (is_a DoWord) tree.no_stmts (stmts_at c.args.levels c.args.names) c.args.tokens.now (sym c.is_next.ensures ∙ c.if-not-is_next.false) (λ (v : Vec Stmt Global). stmts_of v.items) c.read_stmts.new.tokens c.read_stmts.result c.in_ok-token.ensures.reads c.read_stmts.ensures
