use Rattle.std.proofs.Common.{sym, ap, subst, ◌∙◌}
use Rattle.std.proofs.lemmas.Result.{err_from_is_err_and}
use Rattle.text_tokens.specs.Reading.{one}
use Rattle.text_tokens.specs.Steps.{lexeme_of, Gives}
use Rattle.text_tokens.proofs.Rows.{all_left, past_part, part_fails, gives_left}
use Rattle.action_tree.specs.Trees as tree
use Rattle.action_tree.specs.Views.{name_of, sum_of, stmt_of}
use Rattle.action_tree.specs.declared.role.Role.TheVariants.{AName, DotSign, BecomesSign}
use Rattle.action_tree.specs.Roles.{is_a, as_name}
use Rattle.action_tree.specs.ExpressionReaders.{sum_at}
use Rattle.action_tree.specs.StatementReaders.{put_member, put_by, stmt_by, stmts_inside}
use Rattle.action_parser.proofs.Tokens.{taken, untaken, all_read}
use Rattle.action_tree.proofs.Viewed as built
use Rattle.action_parser.proofs.Levels.{next_is, chosen, none_chosen, none_begins, then_left, left_fails, put_rest}
use Rattle.action_parser.proofs.statement.put_behind.Goals as goal

pub returns-in_err-name : goal.returns-in_err-name
returns-in_err-name c =
    let p = err_from_is_err_and c.from_residual.result c.from_residual.ensures.1 in
    let l0 = all_left (stmt_by c.args.levels c.args.names (stmts_inside c.args.levels) AName) c.args.tokens.now in
    rw (p.1, p.2) (part_fails (one (is_a AName)) _ l0 c.in_err-name.field-0.0 c.name.new.tokens (untaken (one (is_a AName)) as_name c.args.tokens.now c.name.new.tokens c.in_err-name.field-0.0 c.in_err-name.ensures))

pub returns-in_err-token-in-BecomesSign : goal.returns-in_err-token-in-BecomesSign
returns-in_err-token-in-BecomesSign c =
    let w = c.in_ok-name.name in
    let x = taken (one (is_a AName)) as_name c.args.tokens.now c.name.new.tokens (name_of w) c.in_ok-name.ensures in
    let m = past_part (one (is_a AName)) _ (all_left (stmt_by c.args.levels c.args.names (stmts_inside c.args.levels) AName) c.args.tokens.now) x.part c.name.new.tokens x.reads in
    let p = err_from_is_err_and c.from_residual-in_err-token-in-BecomesSign.result c.from_residual-in_err-token-in-BecomesSign.ensures.1 in
    let l0 = then_left m (chosen (put_by c.args.levels c.args.names x.part) c.name.new.tokens BecomesSign (next_is c.next_role.ensures c.in-Some.is c.in-BecomesSign.is)) in
    rw (p.1, p.2) (part_fails (one (is_a BecomesSign)) _ l0 c.in_err-token-in-BecomesSign.field-0.0 c.token.new.tokens c.in_err-token-in-BecomesSign.ensures.reads)

pub returns-in_err-sum-in-BecomesSign : goal.returns-in_err-sum-in-BecomesSign
returns-in_err-sum-in-BecomesSign c =
    let w = c.in_ok-name.name in
    let x = taken (one (is_a AName)) as_name c.args.tokens.now c.name.new.tokens (name_of w) c.in_ok-name.ensures in
    let m = past_part (one (is_a AName)) _ (all_left (stmt_by c.args.levels c.args.names (stmts_inside c.args.levels) AName) c.args.tokens.now) x.part c.name.new.tokens x.reads in
    let p = err_from_is_err_and c.from_residual-in_err-sum-in-BecomesSign.result c.from_residual-in_err-sum-in-BecomesSign.ensures.1 in
    let l0 = then_left m (chosen (put_by c.args.levels c.args.names x.part) c.name.new.tokens BecomesSign (next_is c.next_role.ensures c.in-Some.is c.in-BecomesSign.is)) in
    let l1 = past_part (one (is_a BecomesSign)) _ l0 (lexeme_of c.name.new.tokens.source c.in_ok-token-in-BecomesSign.field-0) c.token.new.tokens c.in_ok-token-in-BecomesSign.ensures.reads in
    rw (p.1, p.2) (part_fails (sum_at c.args.levels c.args.names) _ l1 c.in_err-sum-in-BecomesSign.field-0.0 c.read_sum.new.tokens c.in_err-sum-in-BecomesSign.ensures)

pub returns-in_ok-sum-in-BecomesSign : goal.returns-in_ok-sum-in-BecomesSign
returns-in_ok-sum-in-BecomesSign c =
    let w = c.in_ok-name.name in
    let x = taken (one (is_a AName)) as_name c.args.tokens.now c.name.new.tokens (name_of w) c.in_ok-name.ensures in
    let m = past_part (one (is_a AName)) _ (all_left (stmt_by c.args.levels c.args.names (stmts_inside c.args.levels) AName) c.args.tokens.now) x.part c.name.new.tokens x.reads in
    let l0 = then_left m (chosen (put_by c.args.levels c.args.names x.part) c.name.new.tokens BecomesSign (next_is c.next_role.ensures c.in-Some.is c.in-BecomesSign.is)) in
    let l1 = past_part (one (is_a BecomesSign)) _ l0 (lexeme_of c.name.new.tokens.source c.in_ok-token-in-BecomesSign.field-0) c.token.new.tokens c.in_ok-token-in-BecomesSign.ensures.reads in
    let s = c.in_ok-sum-in-BecomesSign.sum in
    let l2 = past_part (sum_at c.args.levels c.args.names) _ l1 (sum_of s) c.read_sum.new.tokens c.in_ok-sum-in-BecomesSign.ensures in
    all_read (stmt_by c.args.levels c.args.names (stmts_inside c.args.levels) AName) c.args.tokens.now c.read_sum.new.tokens _ _ l2 (ap (λ (v : tree.Name). tree.put v (sum_of s)) x.is ∙ sym (built.stmt_put w s))

pub returns-in-DotSign : goal.returns-in-DotSign
returns-in-DotSign c =
    let w = c.in_ok-name.name in
    let x = taken (one (is_a AName)) as_name c.args.tokens.now c.name.new.tokens (name_of w) c.in_ok-name.ensures in
    let m = past_part (one (is_a AName)) _ (all_left (stmt_by c.args.levels c.args.names (stmts_inside c.args.levels) AName) c.args.tokens.now) x.part c.name.new.tokens x.reads in
    let port = built.port_name w ∙ ap tree.bound (sym x.is) in
    gives_left stmt_of c.put_of.result c.put_of.new.tokens (then_left m (chosen (put_by c.args.levels c.args.names x.part) c.name.new.tokens DotSign (next_is c.next_role.ensures c.in-Some.is c.in-DotSign.is)))
    (subst (λ (p : tree.PortExpr). Gives stmt_of (put_member c.args.levels c.args.names p) c.name.new.tokens c.put_of.result c.put_of.new.tokens) port c.put_of.ensures)

pub returns-in_default : goal.returns-in_default
returns-in_default c =
    let w = c.in_ok-name.name in
    let x = taken (one (is_a AName)) as_name c.args.tokens.now c.name.new.tokens (name_of w) c.in_ok-name.ensures in
    let m = past_part (one (is_a AName)) _ (all_left (stmt_by c.args.levels c.args.names (stmts_inside c.args.levels) AName) c.args.tokens.now) x.part c.name.new.tokens x.reads in
    left_fails c.unexpected.result c.name.new.tokens m (none_chosen (put_by c.args.levels c.args.names x.part) c.name.new.tokens c.unexpected.result (sym c.next_role.ensures ∙ c.in_default.is) c.unexpected.ensures)

pub returns-in_default-role : goal.returns-in_default-role
returns-in_default-role c =
    let w = c.in_ok-name.name in
    let x = taken (one (is_a AName)) as_name c.args.tokens.now c.name.new.tokens (name_of w) c.in_ok-name.ensures in
    let m = past_part (one (is_a AName)) _ (all_left (stmt_by c.args.levels c.args.names (stmts_inside c.args.levels) AName) c.args.tokens.now) x.part c.name.new.tokens x.reads in
    let d = c.in_default-role in
    left_fails c.unexpected-in_default-role.result c.name.new.tokens m (none_begins (put_by c.args.levels c.args.names x.part) c.name.new.tokens c.in-Some.role c.unexpected-in_default-role.result (sym c.next_role.ensures ∙ c.in-Some.is) (put_rest c.args.levels c.args.names x.part c.in-Some.role d.not-BecomesSign d.not-DotSign) c.unexpected-in_default-role.ensures)
