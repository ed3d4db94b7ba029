use Rattle.std.proofs.Common.{Bool, true, false, sym, ◌∙◌, Err}
use Rattle.std.proofs.lemmas.Result.{err_from_is_err_and}
use Rattle.text_tokens.specs.Text.{Lexeme}
use Rattle.text_tokens.specs.Reading.{Reader, ◌>>=◌, pure, one}
use Rattle.text_tokens.specs.Steps.{lexeme_of}
use Rattle.text_tokens.proofs.StepsLemmas.{is_first, is_second, gives_as, fails, on_made, stays}
use Rattle.action_tree.specs.declared.role.Role.TheVariants as role
use Rattle.action_tree.specs.Roles.{is_a}
use Rattle.action_tree.specs.ExpressionReaders.{a_minus}
use Rattle.action_parser.proofs.words.minus.Goals as goal

abbrev taken : Reader Bool
taken = one (is_a role.MinusSign) >>= λ u. pure true

pub returns-then-not-is_next : goal.returns-then-not-is_next
unfolding a_minus
returns-then-not-is_next c =
    let now = c.args.tokens.now in
    (is_second (is_a role.MinusSign) taken (pure false) now.last now.ahead (sym c.is_next.ensures ∙ c.if-not-is_next.true), stays now)

pub returns-in_err-token : goal.returns-in_err-token
unfolding a_minus
returns-in_err-token c =
    let p = err_from_is_err_and c.from_residual.result c.from_residual.ensures.1 in
    let now = c.args.tokens.now in
    let e = c.in_err-token.field-0.0 in
    rw (p.1, p.2) (gives_as (λ (b : Bool). b) a_minus taken now c.token.new.tokens (Err e) (is_first (is_a role.MinusSign) taken (pure false) now.last now.ahead (sym c.is_next.ensures ∙ c.if-not-is_next.false))
    (fails (one (is_a role.MinusSign)) (λ u. pure true) e now c.token.new.tokens c.in_err-token.ensures.reads))

pub returns : goal.returns
unfolding a_minus
returns c =
    let now = c.args.tokens.now in
    let r = on_made (one (is_a role.MinusSign)) (λ (u : Lexeme). true) now c.token.new.tokens (lexeme_of now.source c.in_ok-token.field-0) c.in_ok-token.ensures.reads in
    (is_first (is_a role.MinusSign) taken (pure false) now.last now.ahead (sym c.is_next.ensures ∙ c.if-not-is_next.false) ∙ r.0, r.1)
