use Rattle.std.proofs.Common.{refl, sym, ap, ◌∙◌}
use Rattle.std.proofs.lemmas.Result.{err_from_is_err_and}
use Rattle.text_tokens.specs.Reading.{one}
use Rattle.action_tree.specs.declared.role.Role.TheVariants as role
use Rattle.action_tree.specs.Roles.{is_a, same_role, as_literal, as_name, as_dirterm}
use Rattle.action_parser.proofs.Tokens.{left_reads, right_reads, left_fails, right_fails, taken, untaken}
use Rattle.action_tree.proofs.RolesLemmas.{other_role}
use Rattle.action_tree.specs.Trees.{fixed, held}
use Rattle.action_tree.specs.Views.{literal_of, name_of}
use Rattle.action_parser.proofs.words.dirterm.Goals as goal

pub returns-in_err-literal : goal.returns-in_err-literal
returns-in_err-literal c =
    let p = err_from_is_err_and c.from_residual.result c.from_residual.ensures.1 in
    let now = c.args.tokens.now in
    let e = c.in_err-literal.field-0.0 in
    rw (p.1, p.2) (left_fails (is_a role.ANumber) (is_a role.AName) as_dirterm now c.literal.new.tokens e (sym c.is_next.ensures ∙ c.if-is_next.true) (untaken (one (is_a role.ANumber)) as_literal now c.literal.new.tokens e c.in_err-literal.ensures))

pub returns-in_ok-literal : goal.returns-in_ok-literal
returns-in_ok-literal c =
    let now = c.args.tokens.now in
    let n = literal_of c.in_ok-literal.field-0 in
    let x = taken (one (is_a role.ANumber)) as_literal now c.literal.new.tokens n c.in_ok-literal.ensures in
    left_reads (is_a role.ANumber) (is_a role.AName) as_dirterm now c.literal.new.tokens x.part (fixed n) (sym c.is_next.ensures ∙ c.if-is_next.true) x.reads (λ e. rw e (ap fixed x.is))

pub returns-in_err-name : goal.returns-in_err-name
returns-in_err-name c =
    let p = err_from_is_err_and c.from_residual-in_err-name.result c.from_residual-in_err-name.ensures.1 in
    let now = c.args.tokens.now in
    let e = c.in_err-name.field-0.0 in
    rw (p.1, p.2) (right_fails (is_a role.ANumber) (is_a role.AName) as_dirterm now c.name.new.tokens e (sym c.is_next.ensures ∙ c.if-is_next.false) (untaken (one (is_a role.AName)) as_name now c.name.new.tokens e c.in_err-name.ensures))

pub returns-in_ok-name : goal.returns-in_ok-name
unfolding same_role
returns-in_ok-name c =
    let now = c.args.tokens.now in
    let v = name_of c.in_ok-name.field-0 in
    let x = taken (one (is_a role.AName)) as_name now c.name.new.tokens v c.in_ok-name.ensures in
    right_reads (is_a role.ANumber) (is_a role.AName) as_dirterm now c.name.new.tokens x.part (held v) (sym c.is_next.ensures ∙ c.if-is_next.false) x.reads (λ e. rw (other_role role.AName role.ANumber x.part refl e) (ap held x.is))
