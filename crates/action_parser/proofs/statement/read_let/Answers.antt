use Rattle.std.proofs.Common.{sym, ap, ◌∙◌}
use Rattle.std.proofs.lemmas.Result.{err_from_is_err_and}
use Rattle.text_tokens.specs.Reading.{one, one_within}
use Rattle.text_tokens.specs.Steps.{lexeme_of}
use Rattle.text_tokens.proofs.Rows.{all_left, past_part, part_fails}
use Rattle.action_tree.specs.Trees as tree
use Rattle.action_tree.specs.Views.{name_of, port_of}
use Rattle.action_tree.specs.declared.role.Role.TheVariants.{AName, BecomesSign, LetWord}
use Rattle.action_tree.specs.Roles.{is_a, as_name}
use Rattle.action_tree.specs.Expressions.{bound_at}
use Rattle.action_tree.specs.ExpressionReaders.{port_at}
use Rattle.action_tree.specs.StatementReaders.{stmt_by, stmts_inside}
use Rattle.action_parser.proofs.Tokens.{taken, untaken, all_read}
use Rattle.action_tree.proofs.Viewed as built
use Rattle.action_parser.proofs.statement.read_let.Goals as goal

pub returns-in_err-token : goal.returns-in_err-token
returns-in_err-token c =
    let p = err_from_is_err_and c.from_residual.result c.from_residual.ensures.1 in
    let l0 = all_left (stmt_by c.args.levels c.args.names (stmts_inside c.args.levels) LetWord) c.args.tokens.now in
    rw (p.1, p.2) (part_fails (one (is_a LetWord)) _ l0 c.in_err-token.field-0.0 c.token.new.tokens c.in_err-token.ensures.reads)

pub returns-in_err-name : goal.returns-in_err-name
returns-in_err-name c =
    let p = err_from_is_err_and c.from_residual-in_err-name.result c.from_residual-in_err-name.ensures.1 in
    let l0 = all_left (stmt_by c.args.levels c.args.names (stmts_inside c.args.levels) LetWord) c.args.tokens.now in
    let l1 = past_part (one (is_a LetWord)) _ l0 (lexeme_of c.args.tokens.now.source c.in_ok-token.field-0) c.token.new.tokens c.in_ok-token.ensures.reads in
    rw (p.1, p.2) (part_fails (one_within (is_a AName) (bound_at c.args.names)) _ l1 c.in_err-name.field-0.0 c.bound_name.new.tokens (untaken (one_within (is_a AName) (bound_at c.args.names)) as_name c.token.new.tokens c.bound_name.new.tokens c.in_err-name.field-0.0 c.in_err-name.ensures.reads))

pub returns-in_err-token-2 : goal.returns-in_err-token-2
returns-in_err-token-2 c =
    let p = err_from_is_err_and c.from_residual-in_err-token-2.result c.from_residual-in_err-token-2.ensures.1 in
    let l0 = all_left (stmt_by c.args.levels c.args.names (stmts_inside c.args.levels) LetWord) c.args.tokens.now in
    let l1 = past_part (one (is_a LetWord)) _ l0 (lexeme_of c.args.tokens.now.source c.in_ok-token.field-0) c.token.new.tokens c.in_ok-token.ensures.reads in
    let x2 = taken (one_within (is_a AName) (bound_at c.args.names)) as_name c.token.new.tokens c.bound_name.new.tokens (name_of c.in_ok-name.name) c.in_ok-name.ensures.reads in
    let l2 = past_part (one_within (is_a AName) (bound_at c.args.names)) _ l1 x2.part c.bound_name.new.tokens x2.reads in
    rw (p.1, p.2) (part_fails (one (is_a BecomesSign)) _ l2 c.in_err-token-2.field-0.0 c.token-2.new.tokens c.in_err-token-2.ensures.reads)

pub returns-in_err-port : goal.returns-in_err-port
returns-in_err-port c =
    let p = err_from_is_err_and c.from_residual-in_err-port.result c.from_residual-in_err-port.ensures.1 in
    let l0 = all_left (stmt_by c.args.levels c.args.names (stmts_inside c.args.levels) LetWord) c.args.tokens.now in
    let l1 = past_part (one (is_a LetWord)) _ l0 (lexeme_of c.args.tokens.now.source c.in_ok-token.field-0) c.token.new.tokens c.in_ok-token.ensures.reads in
    let x2 = taken (one_within (is_a AName) (bound_at c.args.names)) as_name c.token.new.tokens c.bound_name.new.tokens (name_of c.in_ok-name.name) c.in_ok-name.ensures.reads in
    let l2 = past_part (one_within (is_a AName) (bound_at c.args.names)) _ l1 x2.part c.bound_name.new.tokens x2.reads in
    let l3 = past_part (one (is_a BecomesSign)) _ l2 (lexeme_of c.bound_name.new.tokens.source c.in_ok-token-2.field-0) c.token-2.new.tokens c.in_ok-token-2.ensures.reads in
    rw (p.1, p.2) (part_fails (port_at c.args.levels c.args.names) _ l3 c.in_err-port.field-0.0 c.read_port.new.tokens c.in_err-port.ensures)

pub returns : goal.returns
returns c =
    let l0 = all_left (stmt_by c.args.levels c.args.names (stmts_inside c.args.levels) LetWord) c.args.tokens.now in
    let l1 = past_part (one (is_a LetWord)) _ l0 (lexeme_of c.args.tokens.now.source c.in_ok-token.field-0) c.token.new.tokens c.in_ok-token.ensures.reads in
    let x2 = taken (one_within (is_a AName) (bound_at c.args.names)) as_name c.token.new.tokens c.bound_name.new.tokens (name_of c.in_ok-name.name) c.in_ok-name.ensures.reads in
    let l2 = past_part (one_within (is_a AName) (bound_at c.args.names)) _ l1 x2.part c.bound_name.new.tokens x2.reads in
    let l3 = past_part (one (is_a BecomesSign)) _ l2 (lexeme_of c.bound_name.new.tokens.source c.in_ok-token-2.field-0) c.token-2.new.tokens c.in_ok-token-2.ensures.reads in
    let l4 = past_part (port_at c.args.levels c.args.names) _ l3 (port_of c.in_ok-port.port) c.read_port.new.tokens c.in_ok-port.ensures in
    all_read (stmt_by c.args.levels c.args.names (stmts_inside c.args.levels) LetWord) c.args.tokens.now c.read_port.new.tokens _ _ l4 (ap (λ (v : tree.Name). tree.let_be v (port_of c.in_ok-port.port)) x2.is ∙ sym (built.stmt_let c.in_ok-name.name c.in_ok-port.port))
