-- The tokens of a text. A text is a list of bytes, and its places count from 0.
use Rattle.std.specs.Prelude.{◌≡◌, ◌<◌, ◌≤◌, ◌+◌, ◌^◌, ℕ, Bool, true, false, ◌&&◌, ◌||◌, ◌==◌, nat_le, List, [], ◌∷◌, ◌++◌, length, take, drop, count_by, codes, if◌then◌else◌}
use Rattle.std.specs.List.{list_all, list_any}
use Rattle.text_tokens.specs.declared.token.TokenKind.{TokenKind}
use Rattle.text_tokens.specs.declared.token.TokenKind.TheVariants.{Word, Number, Sign}
use Rattle.text_tokens.specs.declared.refusal.Refusal.{Refusal}
use Rattle.text_tokens.specs.declared.refusal.RefusalKind.TheVariants.{BadByte, WordTooLong, Truncated}

-- ---- bytes

-- A to Z, a to z and _
abbrev pub is_letter : ℕ → Bool
is_letter b = (nat_le 65 b && nat_le b 90) || (nat_le 97 b && nat_le b 122) || b == 95

-- 0 to 9
abbrev pub is_digit : ℕ → Bool
is_digit b = nat_le 48 b && nat_le b 57

-- what goes on a word
abbrev pub is_word_byte : ℕ → Bool
is_word_byte b = is_letter b || is_digit b

-- space, tab, CR and LF
abbrev pub is_blank : ℕ → Bool
is_blank b = b == 32 || b == 9 || b == 13 || b == 10

abbrev pub is_one_of : List ℕ → ℕ → Bool
is_one_of bytes b = list_any (λ c. b == c) bytes

-- ( ) . ; = < > + - and != <= >= :=
abbrev pub is_sign : List ℕ → Bool
is_sign [] = false
is_sign (a ∷ []) = is_one_of (codes "().;=<>+-") a
is_sign (a ∷ b ∷ []) = b == 61 && is_one_of (codes "!<>:") a
is_sign (a ∷ b ∷ c ∷ more) = false

-- ---- what separates tokens

abbrev pub is_in_line : ℕ → Bool
is_in_line b = if b == 10 then false else true

-- A text, and what is left of it behind blanks and comments.
-- A comment goes from # up to the next LF or to the end.
pub data Skips : List ℕ → List ℕ → Type 0 where
  nothing : {text : List ℕ} → Skips text text
  blank : {b : ℕ} {text rest : List ℕ} → is_blank b ≡ true → Skips text rest → Skips (b ∷ text) rest
  comment : {rest : List ℕ}
      → (inside text : List ℕ)
      → list_all is_in_line inside ≡ true
      → Skips text rest
      → Skips (35 ∷ (inside ++ 10 ∷ text)) rest
  last_comment : (inside : List ℕ) → list_all is_in_line inside ≡ true → Skips (35 ∷ inside) []

-- no blank and no comment begins here
abbrev pub IsSkipped : List ℕ → Type 0
IsSkipped [] = Unit {0}
IsSkipped (b ∷ text) = (is_blank b ≡ false) × ((b == 35) ≡ false)

-- ---- one token

-- the text does not go on with such a byte
abbrev pub StopsRun : (ℕ → Bool) → List ℕ → Type 0
StopsRun test [] = Unit {0}
StopsRun test (b ∷ text) = test b ≡ false

-- no longer sign begins where this one does
abbrev pub IsLongestSign : List ℕ → List ℕ → Type 0
IsLongestSign bytes rest =
    (other more : List ℕ) → is_sign other ≡ true → bytes ++ rest ≡ other ++ more → length other ≤ length bytes

-- the kind of a token, its bytes, and the text behind it
pub data Cuts : TokenKind → List ℕ → List ℕ → Type 0 where
  word : {b : ℕ} {bytes rest : List ℕ}
      → is_letter b ≡ true
      → list_all is_word_byte bytes ≡ true
      → StopsRun is_word_byte rest
      → Cuts Word (b ∷ bytes) rest
  number : {b : ℕ} {bytes rest : List ℕ}
      → is_digit b ≡ true
      → list_all is_digit bytes ≡ true
      → StopsRun is_digit rest
      → Cuts Number (b ∷ bytes) rest
  sign : {bytes rest : List ℕ} → is_sign bytes ≡ true → IsLongestSign bytes rest → Cuts Sign bytes rest

abbrev pub BeginsNoToken : List ℕ → Type 0
BeginsNoToken text =
    (kind : TokenKind) (bytes rest : List ℕ) → Cuts kind bytes rest → text ≡ bytes ++ rest → ⊥

-- how many bytes a token may have
abbrev pub most_bytes : TokenKind → ℕ
most_bytes Word = 24
most_bytes Number = 9
most_bytes Sign = 2

-- ---- all tokens

-- a token, with the place of its first byte and the line of that byte
pub record Lexeme : Type 0 where
  pub kind : TokenKind
  pub text : List ℕ
  pub from : ℕ
  pub line : ℕ

-- the place behind a token
abbrev pub token_end : Lexeme → ℕ
token_end l = l.from + length l.text

-- the line of the byte at a place: one more than the number of LF before it
abbrev pub line_at : List ℕ → ℕ → ℕ
line_at source at = 1 + count_by (λ b. b == 10) (take at source)

-- the places of a text and its lines have numbers of 32 bits
abbrev pub IsCountable : List ℕ → Type 0
IsCountable source = length source + 1 < 2 ^ 32

-- the second place is the first behind blanks and comments from the first place on
pub record Comes (source : List ℕ) (at from : ℕ) : Type 0 where
  pub behind : at ≤ from
  pub within : from ≤ length source
  pub skips : Skips (drop at source) (drop from source)
  pub skipped : IsSkipped (drop from source)

-- such a token stands in the source
pub record IsToken (source : List ℕ) (l : Lexeme) : Type 0 where
  pub cuts : Cuts l.kind l.text (drop (token_end l) source)
  pub text : drop l.from source ≡ l.text ++ drop (token_end l) source
  pub line : l.line ≡ line_at source l.from

-- The tokens of a source from a place on, and what is wrong behind the last
-- of them where one more is needed:
-- the text ends there, or a byte begins no token, or a word or number is too long.
pub data AreTokens (source : List ℕ) : ℕ → List Lexeme → Refusal → Type 0 where
  ends : {at : ℕ}
      → Comes source at (length source)
      → AreTokens source at [] (record { line = line_at source (length source); kind = Truncated })
  bad_byte : {at : ℕ}
      → (from : ℕ)
      → Comes source at from
      → from < length source
      → BeginsNoToken (drop from source)
      → AreTokens source at [] (record { line = line_at source from; kind = BadByte })
  too_long : {at : ℕ}
      → (l : Lexeme)
      → Comes source at l.from
      → IsToken source l
      → most_bytes l.kind < length l.text
      → AreTokens source at [] (record { line = l.line; kind = WordTooLong })
  token : {at : ℕ} {ls : List Lexeme} {last : Refusal}
      → (l : Lexeme)
      → Comes source at l.from
      → IsToken source l
      → length l.text ≤ most_bytes l.kind
      → AreTokens source (token_end l) ls last
      → AreTokens source at (l ∷ ls) last
