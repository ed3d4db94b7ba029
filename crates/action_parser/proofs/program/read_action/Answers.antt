use Rattle.std.proofs.Common.{List, Ok, Err, refl, subst}
use Rattle.std.proofs.lemmas.Result.{err_from_is_err_and}
use Rattle.text_tokens.specs.Reading.{one}
use Rattle.text_tokens.specs.Steps.{lexeme_of, Gives}
use Rattle.text_tokens.proofs.Rows.{all_left, past_part, part_fails}
use Rattle.action_tree.specs.declared.statement.Stmt.{Stmt}
use Rattle.action_tree.specs.Productions.{names_left_after_all}
use Rattle.action_tree.specs.Limits.{most_levels, most_names}
use Rattle.action_tree.specs.Views.{name_of, guard_of, stmts_of, move_of}
use Rattle.action_tree.specs.declared.role.Role.TheVariants.{AName, ActionWord, WhenWord}
use Rattle.action_tree.specs.Roles.{is_a, as_name}
use Rattle.action_tree.specs.ExpressionReaders.{expr_at}
use Rattle.action_tree.specs.ProgramReaders.{a_body, a_moved, an_action}
use Rattle.action_parser.proofs.Tokens.{taken, untaken, all_read}
use Rattle.action_parser.proofs.program.read_action.Goals as goal

pub returns-in_err-token : goal.returns-in_err-token
unfolding an_action
returns-in_err-token c =
    let p = err_from_is_err_and c.from_residual.result c.from_residual.ensures.1 in
    let l0 = all_left (an_action most_levels most_names) c.args.tokens.now in
    rw (p.1, p.2) (part_fails (one (is_a ActionWord)) _ l0 c.in_err-token.field-0.0 c.token.new.tokens c.in_err-token.ensures.reads)

pub returns-in_err-name : goal.returns-in_err-name
unfolding an_action
returns-in_err-name c =
    let p = err_from_is_err_and c.from_residual-in_err-name.result c.from_residual-in_err-name.ensures.1 in
    let l0 = all_left (an_action most_levels most_names) c.args.tokens.now in
    let l1 = past_part (one (is_a ActionWord)) _ l0 (lexeme_of c.args.tokens.now.source c.in_ok-token.field-0) c.token.new.tokens c.in_ok-token.ensures.reads in
    rw (p.1, p.2) (part_fails (one (is_a AName)) _ l1 c.in_err-name.field-0.0 c.name.new.tokens (untaken (one (is_a AName)) as_name c.token.new.tokens c.name.new.tokens c.in_err-name.field-0.0 c.in_err-name.ensures))

pub returns-in_err-token-2 : goal.returns-in_err-token-2
unfolding an_action
returns-in_err-token-2 c =
    let p = err_from_is_err_and c.from_residual-in_err-token-2.result c.from_residual-in_err-token-2.ensures.1 in
    let l0 = all_left (an_action most_levels most_names) c.args.tokens.now in
    let l1 = past_part (one (is_a ActionWord)) _ l0 (lexeme_of c.args.tokens.now.source c.in_ok-token.field-0) c.token.new.tokens c.in_ok-token.ensures.reads in
    let x2 = taken (one (is_a AName)) as_name c.token.new.tokens c.name.new.tokens (name_of c.in_ok-name.name) c.in_ok-name.ensures in
    let l2 = past_part (one (is_a AName)) _ l1 x2.part c.name.new.tokens x2.reads in
    rw (p.1, p.2) (part_fails (one (is_a WhenWord)) _ l2 c.in_err-token-2.field-0.0 c.token-2.new.tokens c.in_err-token-2.ensures.reads)

pub returns-in_err-guard : goal.returns-in_err-guard
unfolding an_action
returns-in_err-guard c =
    let p = err_from_is_err_and c.from_residual-in_err-guard.result c.from_residual-in_err-guard.ensures.1 in
    let l0 = all_left (an_action most_levels most_names) c.args.tokens.now in
    let l1 = past_part (one (is_a ActionWord)) _ l0 (lexeme_of c.args.tokens.now.source c.in_ok-token.field-0) c.token.new.tokens c.in_ok-token.ensures.reads in
    let x2 = taken (one (is_a AName)) as_name c.token.new.tokens c.name.new.tokens (name_of c.in_ok-name.name) c.in_ok-name.ensures in
    let l2 = past_part (one (is_a AName)) _ l1 x2.part c.name.new.tokens x2.reads in
    let l3 = past_part (one (is_a WhenWord)) _ l2 (lexeme_of c.name.new.tokens.source c.in_ok-token-2.field-0) c.token-2.new.tokens c.in_ok-token-2.ensures.reads in
    rw (p.1, p.2) (part_fails (expr_at most_levels most_names) _ l3 c.in_err-guard.field-0.0 c.read_guard.new.tokens c.in_err-guard.ensures)

pub returns-in_err-body : goal.returns-in_err-body
unfolding an_action
returns-in_err-body c =
    let p = err_from_is_err_and c.from_residual-in_err-body.result c.from_residual-in_err-body.ensures.1 in
    let l0 = all_left (an_action most_levels most_names) c.args.tokens.now in
    let l1 = past_part (one (is_a ActionWord)) _ l0 (lexeme_of c.args.tokens.now.source c.in_ok-token.field-0) c.token.new.tokens c.in_ok-token.ensures.reads in
    let x2 = taken (one (is_a AName)) as_name c.token.new.tokens c.name.new.tokens (name_of c.in_ok-name.name) c.in_ok-name.ensures in
    let l2 = past_part (one (is_a AName)) _ l1 x2.part c.name.new.tokens x2.reads in
    let l3 = past_part (one (is_a WhenWord)) _ l2 (lexeme_of c.name.new.tokens.source c.in_ok-token-2.field-0) c.token-2.new.tokens c.in_ok-token-2.ensures.reads in
    let l4 = past_part (expr_at most_levels most_names) _ l3 (guard_of c.in_ok-guard.guard) c.read_guard.new.tokens c.in_ok-guard.ensures in
    rw (p.1, p.2) (part_fails (a_body most_levels most_names) _ l4 c.in_err-body.field-0.0 c.read_body.new.tokens c.in_err-body.ensures)

pub returns-in_err-moved : goal.returns-in_err-moved
unfolding an_action
returns-in_err-moved c =
    let p = err_from_is_err_and c.from_residual-in_err-moved.result c.from_residual-in_err-moved.ensures.1 in
    let l0 = all_left (an_action most_levels most_names) c.args.tokens.now in
    let l1 = past_part (one (is_a ActionWord)) _ l0 (lexeme_of c.args.tokens.now.source c.in_ok-token.field-0) c.token.new.tokens c.in_ok-token.ensures.reads in
    let x2 = taken (one (is_a AName)) as_name c.token.new.tokens c.name.new.tokens (name_of c.in_ok-name.name) c.in_ok-name.ensures in
    let l2 = past_part (one (is_a AName)) _ l1 x2.part c.name.new.tokens x2.reads in
    let l3 = past_part (one (is_a WhenWord)) _ l2 (lexeme_of c.name.new.tokens.source c.in_ok-token-2.field-0) c.token-2.new.tokens c.in_ok-token-2.ensures.reads in
    let l4 = past_part (expr_at most_levels most_names) _ l3 (guard_of c.in_ok-guard.guard) c.read_guard.new.tokens c.in_ok-guard.ensures in
    let l5 = past_part (a_body most_levels most_names) _ l4 (stmts_of c.in_ok-body.body.items) c.read_body.new.tokens c.in_ok-body.ensures in
    rw (p.1, p.2) (part_fails (a_moved most_levels (names_left_after_all most_names (stmts_of c.in_ok-body.body.items))) _ l5 c.in_err-moved.field-0.0 c.read_moved.new.tokens (subst (λ (ss : List Stmt). Gives move_of (a_moved most_levels (names_left_after_all most_names (stmts_of ss))) c.read_body.new.tokens (Err c.in_err-moved.field-0.0) c.read_moved.new.tokens) c.deref.ensures.value c.in_err-moved.ensures))

pub returns : goal.returns
unfolding an_action
returns c =
    let l0 = all_left (an_action most_levels most_names) c.args.tokens.now in
    let l1 = past_part (one (is_a ActionWord)) _ l0 (lexeme_of c.args.tokens.now.source c.in_ok-token.field-0) c.token.new.tokens c.in_ok-token.ensures.reads in
    let x2 = taken (one (is_a AName)) as_name c.token.new.tokens c.name.new.tokens (name_of c.in_ok-name.name) c.in_ok-name.ensures in
    let l2 = past_part (one (is_a AName)) _ l1 x2.part c.name.new.tokens x2.reads in
    let l3 = past_part (one (is_a WhenWord)) _ l2 (lexeme_of c.name.new.tokens.source c.in_ok-token-2.field-0) c.token-2.new.tokens c.in_ok-token-2.ensures.reads in
    let l4 = past_part (expr_at most_levels most_names) _ l3 (guard_of c.in_ok-guard.guard) c.read_guard.new.tokens c.in_ok-guard.ensures in
    let l5 = past_part (a_body most_levels most_names) _ l4 (stmts_of c.in_ok-body.body.items) c.read_body.new.tokens c.in_ok-body.ensures in
    let l6 = past_part (a_moved most_levels (names_left_after_all most_names (stmts_of c.in_ok-body.body.items))) _ l5 (move_of c.in_ok-moved.moved) c.read_moved.new.tokens (subst (λ (ss : List Stmt). Gives move_of (a_moved most_levels (names_left_after_all most_names (stmts_of ss))) c.read_body.new.tokens (Ok c.in_ok-moved.moved) c.read_moved.new.tokens) c.deref.ensures.value c.in_ok-moved.ensures) in
    all_read (an_action most_levels most_names) c.args.tokens.now c.read_moved.new.tokens _ _ l6 (rw x2.is refl)
