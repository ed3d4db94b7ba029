-- Tokens told apart, and the parts of one token that stand for its line or a number.
use Rattle.std.proofs.Common.{◌≡◌, ℕ, Bool, true, false, List, Option, refl, ap, ◌∙◌, rules, ◌||◌}
use Rattle.std.specs.Prelude.{codes}
use Rattle.std.specs.Str.{bytes_eq}
use Rattle.std.proofs.lemmas.Slice.Eq.{bytes_eq-Decides}
use Rattle.std.proofs.lemmas.Bool.{and_parts}
use denote.Enum.Bare.{same_true}
use Rattle.text_tokens.specs.contracts.token.TokenKind.{the_type}
use Rattle.text_tokens.specs.declared.token.TokenKind.{TokenKind}
use Rattle.text_tokens.specs.declared.token.TokenKind.TheVariants.{Word, Number, Sign}
use Rattle.text_tokens.specs.declared.refusal.RefusalKind.{RefusalKind}
use Rattle.text_tokens.specs.Text.{Lexeme}
use Rattle.text_tokens.specs.Cursor.{is_the, is_kind, same_kind, is_spelled}
use Rattle.text_tokens.specs.Reading.{is_number, lexeme_value, the_line, numeral, no_limit}
use Rattle.text_tokens.specs.Grammar.{IsOne, IsThe, IsNumeral}
use Rattle.text_tokens.specs.Lawful.{always, IsPart, Starts}
use Rattle.text_tokens.proofs.Parts.{part_the, part_numeral}
use Rattle.text_tokens.proofs.StartsLemmas.{starts_one, starts_made}

-- ---- a token that passes a test

abbrev pub passing : TokenKind → List ℕ → Lexeme
passing kind text = record { kind = kind; text = text; «from» = 0; line = 0 }

pub passes : (kind : TokenKind) (text : List ℕ) → bytes_eq text text ≡ true → is_the kind text (passing kind text) ≡ true
unfolding same_kind
passes Word text e = e
passes Number text e = e
passes Sign text e = e

pub passes_number : is_number (passing Number (codes "1")) ≡ true
unfolding same_kind
passes_number = refl

-- ---- and no other

pub kind_is : (kind : TokenKind) (t : Lexeme) → is_kind kind t ≡ true → t.kind ≡ kind
unfolding same_kind
kind_is kind t e = same_true the_type (search rules) t.kind kind e

-- a token of one kind is none of another
pub other_kind : (kind other : TokenKind) (text : List ℕ) (t : Lexeme) → same_kind kind other ≡ false → is_the kind text t ≡ true → is_kind other t ≡ false
other_kind kind other text t n e = ap (λ (k : TokenKind). same_kind k other) (kind_is kind t (and_parts (is_kind kind t) (is_spelled text t) e).0) ∙ n

pub sign_no_number : (text : List ℕ) (t : Lexeme) → is_the Sign text t ≡ true → is_number t ≡ false
unfolding same_kind
sign_no_number text t e = other_kind Sign Number text t refl e

-- nor is one text another
pub other_text : (kind : TokenKind) (v w : List ℕ) (t : Lexeme) → bytes_eq v w ≡ false → is_the kind v t ≡ true → is_the kind w t ≡ false
other_text kind v w t n e =
    let a = and_parts (is_kind kind t) (is_spelled v t) e in
    let same : t.text ≡ v = (bytes_eq-Decides t.text v).0 a.1 in
    rw a.0 (ap (λ (text : List ℕ). bytes_eq text w) same ∙ n)

-- ---- parts

pub a_token : (kind : TokenKind) (text : List ℕ) → bytes_eq text text ≡ true → IsPart (IsThe (is_the kind text)) (the_line (is_the kind text)) always
a_token kind text e = part_the (is_the kind text) (passing kind text) (passes kind text e)

pub a_numeral : (over : Lexeme → Option RefusalKind) → IsPart (IsNumeral over) (numeral over) always
a_numeral over = part_numeral over (passing Number (codes "1")) passes_number

pub starts_the : (test : Lexeme → Bool) → Starts (IsThe test) test no_limit
starts_the test = starts_made (IsOne test no_limit) (λ t. t.line) test no_limit (starts_one test no_limit)

pub starts_numeral : (over : Lexeme → Option RefusalKind) → Starts (IsNumeral over) is_number over
starts_numeral over = starts_made (IsOne is_number over) lexeme_value is_number over (starts_one is_number over)

-- a token that passes neither test
pub not_either : (a b c : Lexeme → Bool) (t : Lexeme) → (a t ≡ true → c t ≡ false) → (b t ≡ true → c t ≡ false) → (a t || b t) ≡ true → c t ≡ false
not_either a b c t f g e = by (a t) refl e
  where
    by : (x : Bool) → a t ≡ x → (x || b t) ≡ true → c t ≡ false
    by true h k = f h
    by false h k = g k
