-- The tokens of a text, one after the other from left to right.
use Rattle.std.specs.Prelude.{ℕ, zero, suc, ◌+◌, Bool, true, false, if◌then◌else◌, ◌==◌, nat_lt, List, [], ◌∷◌, length, take, drop, Result, Ok, Err}
use Rattle.std.specs.List.{prefix_len}
use Rattle.text_tokens.specs.declared.token.TokenKind.{TokenKind}
use Rattle.text_tokens.specs.declared.token.TokenKind.TheVariants.{Word, Number, Sign}
use Rattle.text_tokens.specs.declared.refusal.Refusal.{Refusal}
use Rattle.text_tokens.specs.declared.refusal.RefusalKind.{RefusalKind}
use Rattle.text_tokens.specs.declared.refusal.RefusalKind.TheVariants.{BadByte, WordTooLong, Truncated}
use Rattle.text_tokens.specs.Text.{Lexeme, is_letter, is_digit, is_word_byte, is_blank, is_sign, most_bytes}

-- a token at the front of a text: its kind, and how many bytes it has
pub record Piece : Type 0 where
  pub kind : TokenKind
  pub len : ℕ

-- what is left of a text, its place in the whole and its line
pub record Input : Type 0 where
  pub text : List ℕ
  pub at : ℕ
  pub line : ℕ

-- what a byte is between tokens
pub data Between : Type 0 where
  LineFeed : Between
  Blank : Between
  Comment : Between
  Start : Between

-- the same of a byte in a comment or not
abbrev pub between_at : Bool → ℕ → Between
between_at inside b =
    if b == 10 then LineFeed
    else (if inside then Blank
    else (if is_blank b then Blank
    else (if b == 35 then Comment
    else Start)))

abbrev pub skip_by : Between → Input → Input → Input → Input → Input
skip_by LineFeed line_feed blank comment start = line_feed
skip_by Blank line_feed blank comment start = blank
skip_by Comment line_feed blank comment start = comment
skip_by Start line_feed blank comment start = start

-- what is behind blanks and comments
unfoldable pub skip : Bool → ℕ → ℕ → List ℕ → Input
skip inside at line [] = record { text = []; at = at; line = line }
skip inside at line (b ∷ text) = skip_by (between_at inside b)
    (skip false (at + 1) (line + 1) text) (skip inside (at + 1) line text) (skip true (at + 1) line text)
    (record { text = b ∷ text; at = at; line = line })

unfoldable pub ready : Input → Input
ready i = skip false i.at i.line i.text

-- the length of the sign at the front of a text, or 0
unfoldable pub sign_len : List ℕ → ℕ
sign_len [] = 0
sign_len (a ∷ []) = if is_sign (a ∷ []) then 1 else 0
sign_len (a ∷ b ∷ text) = if is_sign (a ∷ b ∷ []) then 2 else (if is_sign (a ∷ []) then 1 else 0)

-- a token of so many bytes, if it may have so many
abbrev pub sized : TokenKind → ℕ → Result Piece RefusalKind
sized kind len =
    if nat_lt (most_bytes kind) len then Err WordTooLong else Ok (record { kind = kind; len = len })

abbrev pub sign_of : ℕ → Result Piece RefusalKind
sign_of zero = Err BadByte
sign_of (suc n) = Ok (record { kind = Sign; len = suc n })

-- the token at the front of a text, or what is wrong there
unfoldable pub front : List ℕ → Result Piece RefusalKind
front [] = Err Truncated
front (b ∷ text) =
    if is_letter b then sized Word (prefix_len is_word_byte (b ∷ text))
    else (if is_digit b then sized Number (prefix_len is_digit (b ∷ text))
    else sign_of (sign_len (b ∷ text)))

abbrev pub lexeme : Input → Piece → Lexeme
lexeme i p = record { kind = p.kind; text = take p.len i.text; from = i.at; line = i.line }

abbrev pub input_past : Input → ℕ → Input
input_past i len = record { text = drop len i.text; at = i.at + len; line = i.line }

abbrev pub len_of : Result Piece RefusalKind → ℕ
len_of (Ok p) = p.len
len_of (Err kind) = 0

abbrev pub with_front : Input → Result Piece RefusalKind → List Lexeme → List Lexeme
with_front i (Ok p) ls = lexeme i p ∷ ls
with_front i (Err kind) ls = []

-- the tokens from an input on. The number bounds how many.
unfoldable pub scan : ℕ → Input → List Lexeme
scan zero i = []
scan (suc n) i = let j = ready i in
    with_front j (front j.text) (scan n (input_past j (len_of (front j.text))))

abbrev pub fault_at : Input → Result Piece RefusalKind → Refusal → Refusal
fault_at i (Ok p) last = last
fault_at i (Err kind) last = record { line = i.line; kind = kind }

-- what is wrong behind them
unfoldable pub scan_end : ℕ → Input → Refusal
scan_end zero i = record { line = i.line; kind = Truncated }
scan_end (suc n) i = let j = ready i in
    fault_at j (front j.text) (scan_end n (input_past j (len_of (front j.text))))

unfoldable pub ahead_of : Input → List Lexeme
ahead_of i = scan (suc (length i.text)) i

unfoldable pub last_of : Input → Refusal
last_of i = scan_end (suc (length i.text)) i
