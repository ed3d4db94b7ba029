use Rattle.std.proofs.Common.{true, false, refl, sym, ◌∙◌}
use Rattle.std.proofs.lemmas.Result.{err_from_is_err_and}
use Rattle.text_tokens.specs.Steps.{lexeme_of}
use Rattle.action_tree.specs.declared.role.Role.TheVariants as role
use Rattle.action_tree.specs.Roles.{is_a, same_role}
use Rattle.action_parser.proofs.Tokens.{left_reads, right_reads, left_fails, right_fails}
use Rattle.action_tree.proofs.RolesLemmas.{other_role}
use Rattle.action_parser.proofs.words.joint.Goals as goal

pub returns-in_err-token : goal.returns-in_err-token
returns-in_err-token c =
    let p = err_from_is_err_and c.from_residual.result c.from_residual.ensures.1 in
    rw (p.1, p.2) (left_fails (is_a role.PlusSign) (is_a role.MinusSign) (is_a role.MinusSign) c.args.tokens.now c.token.new.tokens c.in_err-token.field-0.0 (sym c.is_next.ensures ∙ c.if-is_next.true) c.in_err-token.ensures.reads)

pub returns-in_ok-token : goal.returns-in_ok-token
unfolding same_role
returns-in_ok-token c =
    let t = lexeme_of c.args.tokens.now.source c.in_ok-token.field-0 in
    left_reads (is_a role.PlusSign) (is_a role.MinusSign) (is_a role.MinusSign) c.args.tokens.now c.token.new.tokens t false (sym c.is_next.ensures ∙ c.if-is_next.true) c.in_ok-token.ensures.reads (λ e. other_role role.PlusSign role.MinusSign t refl e)

pub returns-in_err-token-2 : goal.returns-in_err-token-2
returns-in_err-token-2 c =
    let p = err_from_is_err_and c.from_residual-in_err-token-2.result c.from_residual-in_err-token-2.ensures.1 in
    rw (p.1, p.2) (right_fails (is_a role.PlusSign) (is_a role.MinusSign) (is_a role.MinusSign) c.args.tokens.now c.token-else-is_next.new.tokens c.in_err-token-2.field-0.0 (sym c.is_next.ensures ∙ c.if-is_next.false) c.in_err-token-2.ensures.reads)

pub returns-in_ok-token-2 : goal.returns-in_ok-token-2
unfolding same_role
returns-in_ok-token-2 c =
    let t = lexeme_of c.args.tokens.now.source c.in_ok-token-2.field-0 in
    right_reads (is_a role.PlusSign) (is_a role.MinusSign) (is_a role.MinusSign) c.args.tokens.now c.token-else-is_next.new.tokens t true (sym c.is_next.ensures ∙ c.if-is_next.false) c.in_ok-token-2.ensures.reads (λ e. e)
