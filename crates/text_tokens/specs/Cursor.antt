-- What a `Tokens` is: the source, the tokens ahead, and what is wrong behind the last
-- of them where one more is needed.
use Rattle.std.specs.Prelude.{true, ◌&&◌, ◌+◌, ◌*◌, ◌^◌, ◌≡◌, ◌<◌, ◌≤◌, ◌-◌, ℕ, Bool, false, if◌then◌else◌, List, [], ◌∷◌, length, take, drop, Option, Some, None, Result, Ok, Err}
use Rattle.std.specs.Str.{bytes_eq}
use denote.Enum.Bare.{sameb}
use Rattle.text_tokens.specs.contracts.token.TokenKind.{the_type}
use Rattle.text_tokens.specs.declared.token.TokenKind.{TokenKind}
use Rattle.text_tokens.specs.declared.token.TokenKind.TheVariants.{Number}
use Rattle.text_tokens.specs.declared.token.Token.{Token}
use Rattle.text_tokens.specs.declared.refusal.Refusal.{Refusal}
use Rattle.text_tokens.specs.declared.refusal.RefusalKind.{RefusalKind}
use Rattle.text_tokens.specs.declared.refusal.RefusalKind.TheVariants as kind
use Rattle.text_tokens.specs.Scan.{Input, ahead_of, last_of}
use Rattle.std.specs.List.{list_all}
use Rattle.text_tokens.specs.Text.{Lexeme, token_end, AreTokens, Cuts, most_bytes, is_digit}

pub record Cursor : Type 0 where
  pub source : List ℕ
  pub ahead : List Lexeme
  pub last : Refusal

abbrev pub at_input : List ℕ → Input → Cursor
at_input source i = record { source = source; ahead = ahead_of i; last = last_of i }

-- the cursor from a place on, which lies on this line
abbrev pub at_place : List ℕ → ℕ → ℕ → Cursor
at_place source at line = at_input source (record { text = drop at source; at = at; line = line })

-- the cursor stands at the front of these bytes
pub record IsAtFront (bytes : List ℕ) (c : Cursor) : Type 0 where
  pub source : c.source ≡ bytes
  pub tokens : AreTokens bytes 0 c.ahead c.last

-- a token as the reader gives it
abbrev pub token_of : Lexeme → Token
token_of l = record { kind = l.kind; «from» = l.from; to = token_end l; line = l.line }

-- nothing is wrong behind the last token but that there is no more
abbrev pub end_or : Refusal → RefusalKind → Result (Option Token) Refusal
end_or last kind.Truncated = Ok None
end_or last _ = Err last

abbrev pub answer_by : List Lexeme → Refusal → Result (Option Token) Refusal
answer_by [] last = end_or last last.kind
answer_by (l ∷ ls) last = Ok (Some (token_of l))

-- the next token, or none where the text ends, or what is wrong
abbrev pub answer : Cursor → Result (Option Token) Refusal
answer c = answer_by c.ahead c.last

abbrev pub tail : List Lexeme → List Lexeme
tail [] = []
tail (l ∷ ls) = ls

-- past the next token, if there is one
abbrev pub past_token : Cursor → Cursor
past_token c = record { source = c.source; ahead = tail c.ahead; last = c.last }

-- a refusal of this kind on this line
abbrev pub on_line : ℕ → RefusalKind → Refusal
on_line line kind = record { line = line; kind = kind }

-- a refusal of this kind at the next token, or else what is wrong where the tokens end
abbrev pub refusal_at : Refusal → RefusalKind → List Lexeme → Refusal
refusal_at last kind [] = last
refusal_at last kind (l ∷ ls) = record { line = l.line; kind = kind }

abbrev pub end_by : Refusal → RefusalKind → Result (Unit {0}) Refusal
end_by last kind.Truncated = Ok tt
end_by last _ = Err last

-- the text ends there; else a token is refused for this,
-- and what is no token for what is wrong with it
abbrev pub at_end : RefusalKind → Refusal → List Lexeme → Result (Unit {0}) Refusal
at_end kind last [] = end_by last last.kind
at_end kind last (l ∷ ls) = Err (record { line = l.line; kind = kind })

-- the line of the next token, or that of the fault or the end
abbrev pub line_of : List Lexeme → Refusal → ℕ
line_of [] last = last.line
line_of (l ∷ ls) last = l.line

-- tests of a token: by its bytes, and by its kind
abbrev pub is_spelled : List ℕ → Lexeme → Bool
is_spelled bytes l = bytes_eq l.text bytes

unfoldable pub same_kind : TokenKind → TokenKind → Bool
same_kind = sameb the_type

abbrev pub is_kind : TokenKind → Lexeme → Bool
is_kind kind l = same_kind l.kind kind

-- this very token
abbrev pub is_the : TokenKind → List ℕ → Lexeme → Bool
is_the kind bytes l = is_kind kind l && is_spelled bytes l

-- there is a next token, and it passes the test
abbrev pub next_passes : (Lexeme → Bool) → List Lexeme → Bool
next_passes test [] = false
next_passes test (l ∷ ls) = test l

abbrev pub expect_by : (Lexeme → Bool) → List Lexeme → Refusal → Result Token Refusal
expect_by test [] last = Err last
expect_by test (l ∷ ls) last =
    if test l then Ok (token_of l) else Err (record { line = l.line; kind = kind.Unexpected })

-- the next token if it passes the test, and else why not
abbrev pub expect : (Lexeme → Bool) → Cursor → Result Token Refusal
expect test c = expect_by test c.ahead c.last

-- the bytes of a token
abbrev pub slice : List ℕ → Token → List ℕ
slice source t = take (t.to - t.«from») (drop t.«from» source)

-- the token is a slice of the source
pub record IsSlice (source : List ℕ) (t : Token) : Type 0 where
  pub rises : t.«from» ≤ t.to
  pub within : t.to ≤ length source

abbrev pub FirstIs : List Lexeme → List ℕ → Type 0
FirstIs [] bytes = ⊥
FirstIs (l ∷ ls) bytes = l.text ≡ bytes

-- The token is a slice of the source, with the bytes of the next one ahead.
-- They are a token of its kind, and not too many.
pub record Spells (c : Cursor) (t : Token) : Type 0 where
  pub within : IsSlice c.source t
  pub bytes : FirstIs c.ahead (slice c.source t)
  pub cuts : Cuts t.kind (slice c.source t) (drop t.to c.source)
  pub sized : length (slice c.source t) ≤ most_bytes t.kind

-- a text can have such tokens: each is one of its kind, and not too long
pub record IsCut (l : Lexeme) : Type 0 where
  pub behind : List ℕ
  pub cuts : Cuts l.kind l.text behind
  pub sized : length l.text ≤ most_bytes l.kind

abbrev pub AreCut : List Lexeme → Type 0
AreCut [] = Unit {0}
AreCut (l ∷ ls) = IsCut l × AreCut ls

-- a number of at most nine digits, as a token may have
abbrev pub IsShort : ℕ → Type 0
IsShort n = n < 10 ^ most_bytes Number

-- such a number, as a slice of the source
pub record IsDigits (source : List ℕ) (t : Token) : Type 0 where
  pub within : IsSlice source t
  pub digits : list_all is_digit (slice source t) ≡ true
  pub few : length (slice source t) ≤ most_bytes Number

-- what digits stand for: each is worth ten to the number of digits behind it
abbrev pub number_value : List ℕ → ℕ
number_value [] = 0
number_value (b ∷ digits) = (b - 48) * 10 ^ length digits + number_value digits
