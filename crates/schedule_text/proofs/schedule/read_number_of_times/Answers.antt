use Rattle.std.proofs.Common.{◌≡◌, ◌<◌, ◌≤◌, ◌+◌, ℕ, true, false, Some, None, refl, sym, ◌∙◌, arith}
use Rattle.std.specs.Prelude.{nat_lt, ◌==◌}
use Rattle.std.proofs.lemmas.Bool.{lt-ltb, le-ltb}
use Rattle.std.proofs.lemmas.Bool.Decides.{nat_tests}
use Rattle.std.proofs.lemmas.Result.{err_from_is_err_and}
use Rattle.text_tokens.specs.Text.{Lexeme}
use Rattle.text_tokens.specs.declared.refusal.RefusalKind.TheVariants.{TooMany, BadRange}
use Rattle.text_tokens.specs.Reading.{lexeme_value}
use Rattle.text_tokens.specs.Steps.{lexeme_of}
use Rattle.schedule_text.specs.Schedules.{most_steps, past_times}
use Rattle.schedule_text.specs.Readers.{number_of_times}
use Rattle.text_tokens.proofs.TakenTokens.{number_missed, number_past, value_is, number_taken}
use Rattle.schedule_text.proofs.schedule.read_number_of_times.Goals as goal

is_zero : (n : ℕ) → n ≡ 0 → (n == 0) ≡ true
is_zero n e = rw e refl

no_zero : (n : ℕ) → 0 < n → (n == 0) ≡ false
no_zero n lt = grind (arith, nat_tests)

module _ (before : ℕ) (t : Lexeme) where
  none : lexeme_value t ≡ 0 → past_times before t ≡ Some BadRange
  none e = let a : (lexeme_value t == 0) ≡ true = is_zero _ e in rw a refl

  module _ (some : 0 < lexeme_value t) where
    not_none : (lexeme_value t == 0) ≡ false
    not_none = no_zero _ some

    too_many : most_steps < before + lexeme_value t → past_times before t ≡ Some TooMany
    too_many lt = let b : nat_lt most_steps (before + lexeme_value t) ≡ true = lt-ltb _ _ lt in rw (not_none, b) refl

    few : before + lexeme_value t ≤ most_steps → past_times before t ≡ None
    few le = let b : nat_lt most_steps (before + lexeme_value t) ≡ false = le-ltb _ _ le in rw (not_none, b) refl

pub returns-in_err-token-clause-reads : goal.returns-in_err-token-clause-reads
unfolding number_of_times
returns-in_err-token-clause-reads c =
    let p = err_from_is_err_and c.from_residual.result c.from_residual.ensures.1 in
    rw (p.1, p.2) (number_missed (past_times c.args.before) c.args.tokens.now c.take_kind.new.self c.in_err-token.field-0.0 (sym c.take_kind.ensures.answer ∙ c.in_err-token.was) c.in_err-token.ensures.again)

pub returns-then-times-eq0-clause-reads : goal.returns-then-times-eq0-clause-reads
unfolding number_of_times
returns-then-times-eq0-clause-reads c =
    let now = c.args.tokens.now in
    let over = past_times c.args.before in
    let answer = sym c.take_kind.ensures.answer ∙ c.in_ok-token.was in
    let v = value_is over now c.take_kind.new.self c.in_ok-token.token answer c.in_ok-token.ensures.moves c.in_ok-token.ensures.spells c.number-times.result c.number-times.ensures.value in
    rw c.refused.ensures (number_past over now c.take_kind.new.self c.in_ok-token.token answer c.in_ok-token.ensures.moves c.in_ok-token.ensures.spells BadRange
    (none c.args.before (lexeme_of now.source c.in_ok-token.token) (sym v ∙ c.if-times-eq0.true)))

pub returns-then-times-before-clause-reads : goal.returns-then-times-before-clause-reads
unfolding number_of_times
returns-then-times-before-clause-reads c =
    let now = c.args.tokens.now in
    let over = past_times c.args.before in
    let answer = sym c.take_kind.ensures.answer ∙ c.in_ok-token.was in
    let v = value_is over now c.take_kind.new.self c.in_ok-token.token answer c.in_ok-token.ensures.moves c.in_ok-token.ensures.spells c.number-times.result c.number-times.ensures.value in
    let t = lexeme_of now.source c.in_ok-token.token in
    let some : 0 < lexeme_value t = (let n = c.if-times-eq0.false in omega arith) in
    let past : most_steps < c.args.before + lexeme_value t = (let lt = c.if-times-before.true in omega arith) in
    rw c.refused-then-times-before.ensures (number_past over now c.take_kind.new.self c.in_ok-token.token answer c.in_ok-token.ensures.moves c.in_ok-token.ensures.spells TooMany (too_many c.args.before t some past))

pub returns-clause-reads : goal.returns-clause-reads
unfolding number_of_times
returns-clause-reads c =
    let now = c.args.tokens.now in
    let over = past_times c.args.before in
    let answer = sym c.take_kind.ensures.answer ∙ c.in_ok-token.was in
    let v = value_is over now c.take_kind.new.self c.in_ok-token.token answer c.in_ok-token.ensures.moves c.in_ok-token.ensures.spells c.number-times.result c.number-times.ensures.value in
    let t = lexeme_of now.source c.in_ok-token.token in
    let some : 0 < lexeme_value t = (let n = c.if-times-eq0.false in omega arith) in
    let within : c.args.before + lexeme_value t ≤ most_steps = (let le = c.if-times-before.false in omega (arith, c.requires)) in
    number_taken over now c.take_kind.new.self c.in_ok-token.token answer c.in_ok-token.ensures.moves c.in_ok-token.ensures.spells c.number-times.result v (few c.args.before t some within)
