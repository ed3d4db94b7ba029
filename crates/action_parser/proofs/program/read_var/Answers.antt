use Rattle.std.proofs.Common.{refl}
use Rattle.std.proofs.lemmas.Result.{err_from_is_err_and}
use Rattle.text_tokens.specs.Reading.{one}
use Rattle.text_tokens.specs.Steps.{lexeme_of}
use Rattle.text_tokens.proofs.Rows.{all_left, past_part, part_fails}
use Rattle.action_tree.specs.Views.{name_of, literal_of}
use Rattle.action_tree.specs.declared.role.Role.TheVariants.{AName, ANumber, VarWord}
use Rattle.action_tree.specs.Roles.{is_a, as_name, as_literal}
use Rattle.action_tree.specs.ProgramReaders.{a_var}
use Rattle.action_parser.proofs.Tokens.{taken, untaken, all_read}
use Rattle.action_parser.proofs.program.read_var.Goals as goal

pub returns-in_err-token : goal.returns-in_err-token
unfolding a_var
returns-in_err-token c =
    let p = err_from_is_err_and c.from_residual.result c.from_residual.ensures.1 in
    let l0 = all_left a_var c.args.tokens.now in
    rw (p.1, p.2) (part_fails (one (is_a VarWord)) _ l0 c.in_err-token.field-0.0 c.token.new.tokens c.in_err-token.ensures.reads)

pub returns-in_err-name : goal.returns-in_err-name
unfolding a_var
returns-in_err-name c =
    let p = err_from_is_err_and c.from_residual-in_err-name.result c.from_residual-in_err-name.ensures.1 in
    let l0 = all_left a_var c.args.tokens.now in
    let l1 = past_part (one (is_a VarWord)) _ l0 (lexeme_of c.args.tokens.now.source c.in_ok-token.field-0) c.token.new.tokens c.in_ok-token.ensures.reads in
    rw (p.1, p.2) (part_fails (one (is_a AName)) _ l1 c.in_err-name.field-0.0 c.name.new.tokens (untaken (one (is_a AName)) as_name c.token.new.tokens c.name.new.tokens c.in_err-name.field-0.0 c.in_err-name.ensures))

pub returns-in_err-max : goal.returns-in_err-max
unfolding a_var
returns-in_err-max c =
    let p = err_from_is_err_and c.from_residual-in_err-max.result c.from_residual-in_err-max.ensures.1 in
    let l0 = all_left a_var c.args.tokens.now in
    let l1 = past_part (one (is_a VarWord)) _ l0 (lexeme_of c.args.tokens.now.source c.in_ok-token.field-0) c.token.new.tokens c.in_ok-token.ensures.reads in
    let x2 = taken (one (is_a AName)) as_name c.token.new.tokens c.name.new.tokens (name_of c.in_ok-name.name) c.in_ok-name.ensures in
    let l2 = past_part (one (is_a AName)) _ l1 x2.part c.name.new.tokens x2.reads in
    rw (p.1, p.2) (part_fails (one (is_a ANumber)) _ l2 c.in_err-max.field-0.0 c.literal.new.tokens (untaken (one (is_a ANumber)) as_literal c.name.new.tokens c.literal.new.tokens c.in_err-max.field-0.0 c.in_err-max.ensures))

pub returns : goal.returns
unfolding a_var
returns c =
    let l0 = all_left a_var c.args.tokens.now in
    let l1 = past_part (one (is_a VarWord)) _ l0 (lexeme_of c.args.tokens.now.source c.in_ok-token.field-0) c.token.new.tokens c.in_ok-token.ensures.reads in
    let x2 = taken (one (is_a AName)) as_name c.token.new.tokens c.name.new.tokens (name_of c.in_ok-name.name) c.in_ok-name.ensures in
    let l2 = past_part (one (is_a AName)) _ l1 x2.part c.name.new.tokens x2.reads in
    let x3 = taken (one (is_a ANumber)) as_literal c.name.new.tokens c.literal.new.tokens (literal_of c.in_ok-max.max) c.in_ok-max.ensures in
    let l3 = past_part (one (is_a ANumber)) _ l2 x3.part c.literal.new.tokens x3.reads in
    all_read a_var c.args.tokens.now c.literal.new.tokens _ _ l3 (rw (x2.is, x3.is) refl)
