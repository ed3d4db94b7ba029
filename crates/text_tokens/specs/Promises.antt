-- What holds of the tokens of every text, and what they are at a few small ones.
use Rattle.std.specs.Prelude.{◌≡◌, ◌≤◌, ℕ, List, [], ◌∷◌, length, take, drop, codes}
use Rattle.text_tokens.specs.declared.token.TokenKind.TheVariants.{Word, Number, Sign}
use Rattle.text_tokens.specs.declared.refusal.Refusal.{Refusal}
use Rattle.text_tokens.specs.declared.refusal.RefusalKind.TheVariants.{BadByte, WordTooLong, Truncated}
use Rattle.text_tokens.specs.Text.{Lexeme, token_end, AreTokens}
use Rattle.text_tokens.specs.Cursor.{IsAtFront, at_place}

pub record Same (ls ms : List Lexeme) (r s : Refusal) : Type 0 where
  pub tokens : ls ≡ ms
  pub last : r ≡ s

-- a text has no more than one list of tokens, and one fault or end behind them
abbrev pub OneReading : Type 0
OneReading =
    (source : List ℕ) (ls ms : List Lexeme) (r s : Refusal)
    → AreTokens source 0 ls r
    → AreTokens source 0 ms s
    → Same ls ms r s

-- every text has one: the list that is cut from its front on
abbrev pub TokensAreCut : Type 0
TokensAreCut = (source : List ℕ) → IsAtFront source (at_place source 0 1)

-- Each token is a slice of the source with a byte at least,
-- behind the place and behind the tokens before it.
pub record RisesBy (source : List ℕ) (at : ℕ) (l : Lexeme) (Rest : Type 0) : Type 0 where
  pub behind : at ≤ l.from
  pub some : 1 ≤ length l.text
  pub slice : l.text ≡ take (length l.text) (drop l.from source)
  pub more : Rest

abbrev pub Rises : List ℕ → ℕ → List Lexeme → Type 0
Rises source at [] = at ≤ length source
Rises source at (l ∷ ls) = RisesBy source at l (Rises source (token_end l) ls)

abbrev pub SpansRise : Type 0
SpansRise = (source : List ℕ) (ls : List Lexeme) (last : Refusal)
    → AreTokens source 0 ls last → Rises source 0 ls

-- ---- small texts

abbrev pub word_from : ℕ → ℕ → List ℕ → Lexeme
word_from at line text = record { kind = Word; text = text; «from» = at; line = line }

abbrev pub number_from : ℕ → ℕ → List ℕ → Lexeme
number_from at line text = record { kind = Number; text = text; «from» = at; line = line }

abbrev pub sign_from : ℕ → ℕ → List ℕ → Lexeme
sign_from at line text = record { kind = Sign; text = text; «from» = at; line = line }

abbrev pub Reads : List ℕ → List Lexeme → Refusal → Type 0
Reads source ls last = AreTokens source 0 ls last

pub record SmallTexts : Type 0 where
  pub nothing : Reads [] [] (record { line = 1; kind = Truncated })
  pub split : Reads (codes "3a") (number_from 0 1 (codes "3") ∷ word_from 1 1 (codes "a") ∷ [])
      (record { line = 1; kind = Truncated })
  -- a:=b<=1 # c
  pub longest : Reads (codes "a:=b<=1 # c")
      (word_from 0 1 (codes "a") ∷ sign_from 1 1 (codes ":=")
      ∷ word_from 3 1 (codes "b") ∷ sign_from 4 1 (codes "<=")
      ∷ number_from 6 1 (codes "1") ∷ [])
      (record { line = 1; kind = Truncated })
  -- < = with a blank between
  pub apart : Reads (60 ∷ 32 ∷ 61 ∷ []) (sign_from 0 1 (60 ∷ []) ∷ sign_from 2 1 (61 ∷ []) ∷ [])
      (record { line = 1; kind = Truncated })
  -- a comment, whose LF counts as any other, and CR and tab, which do not
  pub lines : Reads (35 ∷ 200 ∷ 10 ∷ 13 ∷ 9 ∷ 97 ∷ 10 ∷ []) (word_from 5 2 (97 ∷ []) ∷ [])
      (record { line = 3; kind = Truncated })
  -- a single : and a single ! begin no token
  pub colon : Reads (97 ∷ 10 ∷ 58 ∷ 98 ∷ [])
      (word_from 0 1 (97 ∷ []) ∷ []) (record { line = 2; kind = BadByte })
  pub bang : Reads (33 ∷ []) [] (record { line = 1; kind = BadByte })
  pub high : Reads (195 ∷ []) [] (record { line = 1; kind = BadByte })
  pub nine : Reads (codes "000000009") (number_from 0 1 (codes "000000009") ∷ [])
      (record { line = 1; kind = Truncated })
  pub ten : Reads (codes "0000000009") [] (record { line = 1; kind = WordTooLong })
  pub many : Reads (codes "abcdefghijklmnopqrstuvwx") (word_from 0 1 (codes "abcdefghijklmnopqrstuvwx") ∷ [])
      (record { line = 1; kind = Truncated })
  pub too_many : Reads (codes "abcdefghijklmnopqrstuvwxy") [] (record { line = 1; kind = WordTooLong })
