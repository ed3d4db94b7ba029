use Rattle.std.proofs.Common.{◌≡◌, ℕ, Bool, true, false, cond, List, [], ◌∷◌, Result, Ok, Err, refl, sym, ap, ◌∙◌}
use Rattle.std.proofs.lemmas.Result.{err_from_is_err_and}
use Rattle.text_tokens.specs.declared.token.TokenKind.TheVariants.{Word}
use Rattle.text_tokens.specs.declared.token.Token.{Token}
use Rattle.text_tokens.specs.declared.refusal.Refusal.{Refusal}
use Rattle.text_tokens.specs.declared.refusal.RefusalKind.TheVariants.{Unexpected}
use Rattle.text_tokens.specs.Text.{Lexeme}
use Rattle.text_tokens.specs.Cursor.{Cursor, FirstIs, is_kind, token_of, expect_by, slice}
use Rattle.text_tokens.specs.Reading.{no_limit, the_line}
use Rattle.text_tokens.proofs.StepsLemmas.{stays_past}
use Rattle.text_tokens.proofs.TakenTokens.{token_missed, token_taken}
use Rattle.journal_text.specs.Turns.{names_failure, is_failure}
use Rattle.journal_text.proofs.turns.read_failure.Goals as goal

-- what is no word names no failure
no_word : (version : ℕ) (ls : List Lexeme) (last r : Refusal) → expect_by (is_kind Word) ls last ≡ Err r → expect_by (is_failure version) ls last ≡ Err r
no_word version [] last r e = e
no_word version (l ∷ ls) last r e = by (is_kind Word l) refl e
  where
    by : (b : Bool) → is_kind Word l ≡ b → cond {A = Result Token Refusal} b (Ok (token_of l)) (Err (record { line = l.line; kind = Unexpected })) ≡ Err r → expect_by (is_failure version) (l ∷ ls) last ≡ Err r
    by true f same = absurd cc
    by false f same = rw f same

module _ (version : ℕ) (source : List ℕ) (t : Token) where
  -- nor does another word
  other_word : (ls : List Lexeme) (last : Refusal) → expect_by (is_kind Word) ls last ≡ Ok t → FirstIs ls (slice source t) → names_failure version (slice source t) ≡ false → expect_by (is_failure version) ls last ≡ Err (record { line = t.line; kind = Unexpected })
  other_word [] last e text none = absurd cc
  other_word (l ∷ ls) last e text none = by (is_kind Word l) refl e
    where
      by : (b : Bool) → is_kind Word l ≡ b → cond {A = Result Token Refusal} b (Ok (token_of l)) (Err (record { line = l.line; kind = Unexpected })) ≡ Ok t → expect_by (is_failure version) (l ∷ ls) last ≡ Err (record { line = t.line; kind = Unexpected })
      by true f same =
          let is : token_of l ≡ t = cc in
          let r : names_failure version l.text ≡ false = ap (names_failure version) text ∙ none in
          rw (f, r) (ap (λ (u : Token). Err (record { line = u.line; kind = Unexpected })) is)
      by false f same = absurd cc

  its_word : (ls : List Lexeme) (last : Refusal) → expect_by (is_kind Word) ls last ≡ Ok t → FirstIs ls (slice source t) → names_failure version (slice source t) ≡ true → expect_by (is_failure version) ls last ≡ Ok t
  its_word [] last e text one = absurd cc
  its_word (l ∷ ls) last e text one = by (is_kind Word l) refl e
    where
      by : (b : Bool) → is_kind Word l ≡ b → cond {A = Result Token Refusal} b (Ok (token_of l)) (Err (record { line = l.line; kind = Unexpected })) ≡ Ok t → expect_by (is_failure version) (l ∷ ls) last ≡ Ok t
      by true f same = let r : names_failure version l.text ≡ true = ap (names_failure version) text ∙ one in rw (f, r) same
      by false f same = absurd cc

pub returns-in_err-token-clause-reads : goal.returns-in_err-token-clause-reads
unfolding the_line
returns-in_err-token-clause-reads c =
    let p = err_from_is_err_and c.from_residual.result c.from_residual.ensures.1 in
    let now = c.args.tokens.now in
    rw (p.1, p.2) (token_missed (is_failure c.args.version) no_limit (λ (t : Lexeme). t.line) now c.take_kind.new.self c.in_err-token.field-0.0 (no_word c.args.version now.ahead now.last c.in_err-token.field-0.0 (sym c.take_kind.ensures.answer ∙ c.in_err-token.was)) c.in_err-token.ensures.again)

pub returns-then-not-names_failure-clause-reads : goal.returns-then-not-names_failure-clause-reads
unfolding the_line
returns-then-not-names_failure-clause-reads c =
    let now = c.args.tokens.now in
    let t = c.in_ok-token.token in
    let same = ap (λ (v : Cursor). v.source) c.in_ok-token.ensures.moves in
    let text : c.text.result.now ≡ slice now.source t = c.text.ensures ∙ ap (λ (source : List ℕ). slice source t) same in
    let none : names_failure c.args.version (slice now.source t) ≡ false = ap (names_failure c.args.version) (sym text) ∙ sym c.names_failure.ensures ∙ c.if-not-names_failure.true in
    let refusal : Refusal = record { line = t.line; kind = Unexpected } in
    let e = other_word c.args.version now.source t now.ahead now.last (sym c.take_kind.ensures.answer ∙ c.in_ok-token.was) c.in_ok-token.ensures.spells.bytes none in
    let f = token_missed (is_failure c.args.version) no_limit (λ (t : Lexeme). t.line) now now refusal e refl in
    rw c.refused.ensures (f.0, stays_past now c.take_kind.new.self c.in_ok-token.ensures.moves)

pub returns-clause-reads : goal.returns-clause-reads
unfolding the_line
returns-clause-reads c =
    let now = c.args.tokens.now in
    let t = c.in_ok-token.token in
    let same = ap (λ (v : Cursor). v.source) c.in_ok-token.ensures.moves in
    let text : c.text.result.now ≡ slice now.source t = c.text.ensures ∙ ap (λ (source : List ℕ). slice source t) same in
    let one_of : names_failure c.args.version (slice now.source t) ≡ true = ap (names_failure c.args.version) (sym text) ∙ sym c.names_failure.ensures ∙ c.if-not-names_failure.false in
    let e = its_word c.args.version now.source t now.ahead now.last (sym c.take_kind.ensures.answer ∙ c.in_ok-token.was) c.in_ok-token.ensures.spells.bytes one_of in
    token_taken (is_failure c.args.version) no_limit (λ (t : Lexeme). t.line) now c.take_kind.new.self t e c.in_ok-token.ensures.moves c.in_ok-token.ensures.spells refl
