use Rattle.std.proofs.Common.{ℕ, sym, subst, ◌∙◌}
use Rattle.std.proofs.lemmas.Result.{err_from_is_err_and}
use Rattle.text_tokens.specs.Steps.{Gives}
use Rattle.action_tree.specs.Trees as tree
use Rattle.action_tree.specs.Productions.{names_left_after_all}
use Rattle.action_tree.specs.Views.{stmts_of, move_of}
use Rattle.action_tree.specs.declared.role.Role.TheVariants.{MoveWord}
use Rattle.action_tree.specs.Roles.{is_a}
use Rattle.action_tree.specs.ProgramReaders.{a_move}
use Rattle.action_parser.proofs.Behind.{left_out, word_fails, behind_word}
use Rattle.action_parser.proofs.statement.read_moved.Goals as goal

pub returns-then-not-is_next : goal.returns-then-not-is_next
returns-then-not-is_next c = left_out (is_a MoveWord) tree.no_move (a_move c.args.levels (names_left_after_all c.args.names (stmts_of c.args.body.now))) c.args.tokens.now (sym c.is_next.ensures ∙ c.if-not-is_next.true)

pub returns-in_err-token : goal.returns-in_err-token
returns-in_err-token c =
    let p = err_from_is_err_and c.from_residual.result c.from_residual.ensures.1 in
    rw (p.1, p.2) (word_fails (is_a MoveWord) tree.no_move (a_move c.args.levels (names_left_after_all c.args.names (stmts_of c.args.body.now))) c.args.tokens.now (sym c.is_next.ensures ∙ c.if-not-is_next.false) c.in_err-token.field-0.0 c.in_err-token.ensures.reads)

pub returns : goal.returns
returns c = behind_word (is_a MoveWord) tree.no_move (a_move c.args.levels (names_left_after_all c.args.names (stmts_of c.args.body.now))) c.args.tokens.now (sym c.is_next.ensures ∙ c.if-not-is_next.false) move_of c.read_move.new.tokens c.read_move.result c.in_ok-token.ensures.reads (subst (λ (l : ℕ). Gives move_of (a_move c.args.levels l) c.token.new.tokens c.read_move.result c.read_move.new.tokens) c.names_behind.ensures c.read_move.ensures)
