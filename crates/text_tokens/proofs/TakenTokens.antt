-- A token that is made into something, from what a `Tokens` answers to what the reader does.
use Rattle.std.proofs.Common.{◌≡◌, ℕ, Bool, List, Option, Some, None, Ok, Err, ap, ◌∙◌}
use Rattle.text_tokens.specs.declared.token.Token.{Token}
use Rattle.text_tokens.specs.declared.refusal.Refusal.{Refusal}
use Rattle.text_tokens.specs.declared.refusal.RefusalKind.{RefusalKind}
use Rattle.text_tokens.specs.declared.refusal.ReadRefusal.TheVariants.{Refused}
use Rattle.text_tokens.specs.Text.{Lexeme}
use Rattle.text_tokens.specs.Cursor.{Cursor, Spells, expect, past_token, number_value, slice}
use Rattle.text_tokens.specs.Reading.{Reader, ◌>>=◌, one_within, pure, is_number, lexeme_value, numeral}
use Rattle.text_tokens.specs.Steps.{lexeme_of}
use Rattle.text_tokens.proofs.StepsLemmas.{Reached, Failed, took, missed, goes_past, fails, on_made}

module _ {A : Type 0} (test : Lexeme → Bool) (over : Lexeme → Option RefusalKind) (make : Lexeme → A) (now new : Cursor) where
  abbrev TokenMade : Reader A
  TokenMade = one_within test over >>= λ t. pure (make t)

  -- there is no such token
  pub token_missed : (r : Refusal) → expect test now ≡ Err r → new ≡ now → Failed TokenMade (Refused r) now new
  token_missed r e again = fails (one_within test over) (λ t. pure (make t)) (Refused r) now new (missed test over now new r e again)

  module _ (t : Token) (e : expect test now ≡ Ok t) (moves : new ≡ past_token now) (s : Spells now t) where
    -- it passes its limit
    pub token_past : (k : RefusalKind) → over (lexeme_of now.source t) ≡ Some k → Failed TokenMade (Refused (record { line = t.line; kind = k })) now new
    token_past k past = fails (one_within test over) (λ t. pure (make t)) (Refused (record { line = t.line; kind = k })) now new (goes_past test over now new t k e moves s past)

    -- it is within its limit
    pub token_taken : over (lexeme_of now.source t) ≡ None → Reached TokenMade now (make (lexeme_of now.source t)) new
    token_taken fine = on_made (one_within test over) make now new (lexeme_of now.source t) (took test over now new t e moves s fine)

-- a number, for what it stands for
module _ (over : Lexeme → Option RefusalKind) (now new : Cursor) where
  pub number_missed : (r : Refusal) → expect is_number now ≡ Err r → new ≡ now → Failed (numeral over) (Refused r) now new
  unfolding numeral
  number_missed r e again = token_missed is_number over lexeme_value now new r e again

  module _ (t : Token) (e : expect is_number now ≡ Ok t) (moves : new ≡ past_token now) (s : Spells now t) where
    pub number_past : (k : RefusalKind) → over (lexeme_of now.source t) ≡ Some k → Failed (numeral over) (Refused (record { line = t.line; kind = k })) now new
    unfolding numeral
    number_past k past = token_past is_number over lexeme_value now new t e moves s k past

    -- what the code says of its value
    pub value_is : (n : ℕ) → n ≡ number_value (slice new.source t) → n ≡ lexeme_value (lexeme_of now.source t)
    value_is n v = v ∙ ap (λ (source : List ℕ). number_value (slice source t)) (ap (λ (c : Cursor). c.source) moves)

    pub number_taken : (n : ℕ) → n ≡ lexeme_value (lexeme_of now.source t) → over (lexeme_of now.source t) ≡ None → Reached (numeral over) now n new
    unfolding numeral
    number_taken n v fine = rw v (token_taken is_number over lexeme_value now new t e moves s fine)
