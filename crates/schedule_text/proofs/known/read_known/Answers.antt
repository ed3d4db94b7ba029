use Rattle.std.proofs.Common.{◌≡◌, ◌<◌, ◌≤◌, ℕ, true, false, Some, None, refl, sym, ◌∙◌}
use Rattle.std.specs.Prelude.{nat_lt}
use Rattle.std.proofs.lemmas.Bool.{lt-ltb, le-ltb}
use Rattle.std.proofs.lemmas.Result.{err_from_is_err_and}
use Rattle.text_tokens.specs.declared.refusal.RefusalKind.TheVariants.{TooMany, BadId}
use Rattle.text_tokens.specs.Text.{Lexeme}
use Rattle.text_tokens.specs.Reading.{lexeme_value}
use Rattle.text_tokens.specs.Steps.{lexeme_of}
use Rattle.text_tokens.proofs.TakenTokens.{number_missed, number_past, value_is, number_taken}
use Rattle.schedule_text.specs.Known.{past_known}
use Rattle.schedule_text.proofs.known.read_known.Goals as goal

module _ (most known before : ℕ) (t : Lexeme) where
  is_past : most ≤ before → past_known most known before t ≡ Some TooMany
  is_past le = let a : nat_lt before most ≡ false = le-ltb _ _ le in rw a refl

  module _ (room : before < most) where
    has_room : nat_lt before most ≡ true
    has_room = lt-ltb _ _ room

    is_unknown : known ≤ lexeme_value t → past_known most known before t ≡ Some BadId
    is_unknown le = let b : nat_lt (lexeme_value t) known ≡ false = le-ltb _ _ le in rw (has_room, b) refl

    is_known : lexeme_value t < known → past_known most known before t ≡ None
    is_known lt = let b : nat_lt (lexeme_value t) known ≡ true = lt-ltb _ _ lt in rw (has_room, b) refl

pub returns-in_err-token-clause-reads : goal.returns-in_err-token-clause-reads
returns-in_err-token-clause-reads c =
    let p = err_from_is_err_and c.from_residual.result c.from_residual.ensures.1 in
    rw (p.1, p.2) (number_missed (past_known c.args.most c.args.known c.args.before) c.args.tokens.now c.take_kind.new.self c.in_err-token.field-0.0 (sym c.take_kind.ensures.answer ∙ c.in_err-token.was) c.in_err-token.ensures.again)

pub returns-then-before-most-clause-reads : goal.returns-then-before-most-clause-reads
returns-then-before-most-clause-reads c =
    let now = c.args.tokens.now in
    let t = c.in_ok-token.token in
    rw c.refused.ensures (number_past (past_known c.args.most c.args.known c.args.before) now c.take_kind.new.self t (sym c.take_kind.ensures.answer ∙ c.in_ok-token.was) c.in_ok-token.ensures.moves c.in_ok-token.ensures.spells TooMany
    (is_past c.args.most c.args.known c.args.before (lexeme_of now.source t) c.if-before-most.true))

pub returns-then-number-known-clause-reads : goal.returns-then-number-known-clause-reads
returns-then-number-known-clause-reads c =
    let now = c.args.tokens.now in
    let new = c.take_kind.new.self in
    let t = c.in_ok-token.token in
    let over = past_known c.args.most c.args.known c.args.before in
    let answer = sym c.take_kind.ensures.answer ∙ c.in_ok-token.was in
    let v = value_is over now new t answer c.in_ok-token.ensures.moves c.in_ok-token.ensures.spells c.number-number.result c.number-number.ensures.value in
    rw c.refused-then-number-known.ensures (number_past over now new t answer c.in_ok-token.ensures.moves c.in_ok-token.ensures.spells BadId
    (is_unknown c.args.most c.args.known c.args.before (lexeme_of now.source t) c.if-before-most.false (rw (← v) c.if-number-known.true)))

pub returns-clause-reads : goal.returns-clause-reads
returns-clause-reads c =
    let now = c.args.tokens.now in
    let new = c.take_kind.new.self in
    let t = c.in_ok-token.token in
    let over = past_known c.args.most c.args.known c.args.before in
    let answer = sym c.take_kind.ensures.answer ∙ c.in_ok-token.was in
    let v = value_is over now new t answer c.in_ok-token.ensures.moves c.in_ok-token.ensures.spells c.number-number.result c.number-number.ensures.value in
    number_taken over now new t answer c.in_ok-token.ensures.moves c.in_ok-token.ensures.spells c.number-number.result v
    (is_known c.args.most c.args.known c.args.before (lexeme_of now.source t) c.if-before-most.false (rw (← v) c.if-number-known.false))
