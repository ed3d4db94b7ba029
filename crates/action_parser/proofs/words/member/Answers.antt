use Rattle.std.proofs.Common.{ap, sym, ◌∙◌}
use Rattle.std.proofs.lemmas.Result.{err_from_is_err_and}
use Rattle.text_tokens.specs.Reading.{one}
use Rattle.text_tokens.specs.Steps.{lexeme_of}
use Rattle.text_tokens.proofs.Rows.{all_left, past_part, part_fails}
use Rattle.action_tree.specs.Trees.{of_port}
use Rattle.action_tree.specs.Views.{name_of, port_of}
use Rattle.action_tree.specs.declared.role.Role.TheVariants as role
use Rattle.action_tree.specs.Roles.{is_a, as_name}
use Rattle.action_tree.specs.ExpressionReaders as spec
use Rattle.action_parser.proofs.Tokens.{taken, untaken, all_read}
use Rattle.action_tree.proofs.Viewed.{term_member}
use Rattle.action_parser.proofs.words.member.Goals as goal

pub returns-in_err-token : goal.returns-in_err-token
returns-in_err-token c =
    let p = err_from_is_err_and c.from_residual.result c.from_residual.ensures.1 in
    let now = c.args.tokens.now in
    let l0 = all_left (spec.member (port_of c.args.port)) now in
    rw (p.1, p.2) (part_fails (one (is_a role.DotSign)) _ l0 c.in_err-token.field-0.0 c.token.new.tokens c.in_err-token.ensures.reads)

pub returns-in_err-name : goal.returns-in_err-name
returns-in_err-name c =
    let p = err_from_is_err_and c.from_residual-in_err-name.result c.from_residual-in_err-name.ensures.1 in
    let now = c.args.tokens.now in
    let l0 = all_left (spec.member (port_of c.args.port)) now in
    let l1 = past_part (one (is_a role.DotSign)) _ l0 (lexeme_of now.source c.in_ok-token.field-0) c.token.new.tokens c.in_ok-token.ensures.reads in
    let e = c.in_err-name.field-0.0 in
    rw (p.1, p.2) (part_fails (one (is_a role.AName)) _ l1 e c.name.new.tokens (untaken (one (is_a role.AName)) as_name c.token.new.tokens c.name.new.tokens e c.in_err-name.ensures))

pub returns : goal.returns
returns c =
    let now = c.args.tokens.now in
    let l0 = all_left (spec.member (port_of c.args.port)) now in
    let l1 = past_part (one (is_a role.DotSign)) _ l0 (lexeme_of now.source c.in_ok-token.field-0) c.token.new.tokens c.in_ok-token.ensures.reads in
    let v = name_of c.in_ok-name.name in
    let x = taken (one (is_a role.AName)) as_name c.token.new.tokens c.name.new.tokens v c.in_ok-name.ensures in
    let l2 = past_part (one (is_a role.AName)) _ l1 x.part c.name.new.tokens x.reads in
    all_read (spec.member (port_of c.args.port)) now c.name.new.tokens _ _ l2 (ap (of_port (port_of c.args.port)) x.is ∙ sym (term_member c.args.port c.in_ok-name.name))
