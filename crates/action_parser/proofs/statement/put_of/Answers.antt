use Rattle.std.proofs.Common.{sym, ap, ◌∙◌}
use Rattle.std.proofs.lemmas.Result.{err_from_is_err_and}
use Rattle.text_tokens.specs.Reading.{one}
use Rattle.text_tokens.specs.Steps.{lexeme_of}
use Rattle.text_tokens.proofs.Rows.{all_left, past_part, part_fails}
use Rattle.action_tree.specs.Trees as tree
use Rattle.action_tree.specs.Views.{name_of, sum_of, port_of}
use Rattle.action_tree.specs.declared.role.Role.TheVariants.{AName, DotSign, BecomesSign}
use Rattle.action_tree.specs.Roles.{is_a, as_name}
use Rattle.action_tree.specs.ExpressionReaders.{sum_at}
use Rattle.action_tree.specs.StatementReaders.{put_member}
use Rattle.action_parser.proofs.Tokens.{taken, untaken, all_read}
use Rattle.action_tree.proofs.Viewed as built
use Rattle.action_parser.proofs.statement.put_of.Goals as goal

pub returns-in_err-token : goal.returns-in_err-token
returns-in_err-token c =
    let p = err_from_is_err_and c.from_residual.result c.from_residual.ensures.1 in
    let l0 = all_left (put_member c.args.levels c.args.names (port_of c.args.port)) c.args.tokens.now in
    rw (p.1, p.2) (part_fails (one (is_a DotSign)) _ l0 c.in_err-token.field-0.0 c.token.new.tokens c.in_err-token.ensures.reads)

pub returns-in_err-name : goal.returns-in_err-name
returns-in_err-name c =
    let p = err_from_is_err_and c.from_residual-in_err-name.result c.from_residual-in_err-name.ensures.1 in
    let l0 = all_left (put_member c.args.levels c.args.names (port_of c.args.port)) c.args.tokens.now in
    let l1 = past_part (one (is_a DotSign)) _ l0 (lexeme_of c.args.tokens.now.source c.in_ok-token.field-0) c.token.new.tokens c.in_ok-token.ensures.reads in
    rw (p.1, p.2) (part_fails (one (is_a AName)) _ l1 c.in_err-name.field-0.0 c.name.new.tokens (untaken (one (is_a AName)) as_name c.token.new.tokens c.name.new.tokens c.in_err-name.field-0.0 c.in_err-name.ensures))

pub returns-in_err-token-2 : goal.returns-in_err-token-2
returns-in_err-token-2 c =
    let p = err_from_is_err_and c.from_residual-in_err-token-2.result c.from_residual-in_err-token-2.ensures.1 in
    let l0 = all_left (put_member c.args.levels c.args.names (port_of c.args.port)) c.args.tokens.now in
    let l1 = past_part (one (is_a DotSign)) _ l0 (lexeme_of c.args.tokens.now.source c.in_ok-token.field-0) c.token.new.tokens c.in_ok-token.ensures.reads in
    let x2 = taken (one (is_a AName)) as_name c.token.new.tokens c.name.new.tokens (name_of c.in_ok-name.name) c.in_ok-name.ensures in
    let l2 = past_part (one (is_a AName)) _ l1 x2.part c.name.new.tokens x2.reads in
    rw (p.1, p.2) (part_fails (one (is_a BecomesSign)) _ l2 c.in_err-token-2.field-0.0 c.token-2.new.tokens c.in_err-token-2.ensures.reads)

pub returns-in_err-sum : goal.returns-in_err-sum
returns-in_err-sum c =
    let p = err_from_is_err_and c.from_residual-in_err-sum.result c.from_residual-in_err-sum.ensures.1 in
    let l0 = all_left (put_member c.args.levels c.args.names (port_of c.args.port)) c.args.tokens.now in
    let l1 = past_part (one (is_a DotSign)) _ l0 (lexeme_of c.args.tokens.now.source c.in_ok-token.field-0) c.token.new.tokens c.in_ok-token.ensures.reads in
    let x2 = taken (one (is_a AName)) as_name c.token.new.tokens c.name.new.tokens (name_of c.in_ok-name.name) c.in_ok-name.ensures in
    let l2 = past_part (one (is_a AName)) _ l1 x2.part c.name.new.tokens x2.reads in
    let l3 = past_part (one (is_a BecomesSign)) _ l2 (lexeme_of c.name.new.tokens.source c.in_ok-token-2.field-0) c.token-2.new.tokens c.in_ok-token-2.ensures.reads in
    rw (p.1, p.2) (part_fails (sum_at c.args.levels c.args.names) _ l3 c.in_err-sum.field-0.0 c.read_sum.new.tokens c.in_err-sum.ensures)

pub returns : goal.returns
returns c =
    let l0 = all_left (put_member c.args.levels c.args.names (port_of c.args.port)) c.args.tokens.now in
    let l1 = past_part (one (is_a DotSign)) _ l0 (lexeme_of c.args.tokens.now.source c.in_ok-token.field-0) c.token.new.tokens c.in_ok-token.ensures.reads in
    let x2 = taken (one (is_a AName)) as_name c.token.new.tokens c.name.new.tokens (name_of c.in_ok-name.name) c.in_ok-name.ensures in
    let l2 = past_part (one (is_a AName)) _ l1 x2.part c.name.new.tokens x2.reads in
    let l3 = past_part (one (is_a BecomesSign)) _ l2 (lexeme_of c.name.new.tokens.source c.in_ok-token-2.field-0) c.token-2.new.tokens c.in_ok-token-2.ensures.reads in
    let l4 = past_part (sum_at c.args.levels c.args.names) _ l3 (sum_of c.in_ok-sum.sum) c.read_sum.new.tokens c.in_ok-sum.ensures in
    all_read (put_member c.args.levels c.args.names (port_of c.args.port)) c.args.tokens.now c.read_sum.new.tokens _ _ l4 (ap (λ (v : tree.Name). tree.put_of (port_of c.args.port) v (sum_of c.in_ok-sum.sum)) x2.is ∙ sym (built.stmt_put_of c.args.port c.in_ok-name.name c.in_ok-sum.sum))
