-- Texts that pass no limit, of tokens that a text can have.
use Rattle.std.proofs.Common.{◌≡◌, ◌<◌, ◌≤◌, ◌-◌, ◌*◌, ◌^◌, ℕ, zero, suc, Bool, true, false, cond, ◌&&◌, ◌||◌, List, [], ◌∷◌, ◌++◌, length, Option, Some, None, refl, sym, ap, subst, ◌∙◌, arith}
use Rattle.std.specs.Prelude.{not}
use Rattle.std.specs.List.{list_all}
use Rattle.std.proofs.lemmas.Bool.{lt-ltb, and_from}
use Rattle.std.proofs.lemmas.Bool.Decides.{nat_tests}
use Rattle.std.proofs.Math.Nat.{mul-le-mul_right, pow-succ'}
use Rattle.text_tokens.specs.declared.token.TokenKind.{TokenKind}
use Rattle.text_tokens.specs.declared.token.TokenKind.TheVariants.{Word, Number}
use Rattle.text_tokens.specs.declared.refusal.RefusalKind.{RefusalKind}
use Rattle.text_tokens.specs.Text.{Lexeme, Cuts, number, is_digit, most_bytes}
use Rattle.text_tokens.specs.Cursor.{IsCut, AreCut, number_value, is_kind}
use Rattle.text_tokens.specs.Reading.{no_limit, deep_at, less, lexeme_value, past_kind}
use Rattle.text_tokens.specs.Grammar.{Symbol, symbol, with_token, tokens, first_fault, refusal_of, IsOne, is_one, past}
use Rattle.text_tokens.specs.Lawful.{BeginsWith}
use Rattle.text_tokens.proofs.LexemeLemmas.{kind_is}
use Rattle.text_tokens.proofs.Decimal.{small_within}
use Rattle.text_tokens.proofs.StartsLemmas.{past_first}
use Rattle.text_tokens.proofs.ListSplits.{or_else_none}
use Rattle.action_tree.specs.Trees.{fixed, held}
use Rattle.action_tree.specs.Words.{is_word, has_few_digits, is_reserved}
use Rattle.action_tree.specs.Productions.{IsName, IsNumberToken, OfDirTerm, dir_number, dir_name}
use Rattle.action_tree.proofs.Conditions.{left_of, right_of}
use Rattle.action_tree.proofs.WordsLemmas.{cut_is_word}
use Rattle.action_tree.specs.declared.role.Role.{Role}
use Rattle.action_tree.specs.declared.role.Role.TheVariants.{AName, ANumber}
use Rattle.action_tree.specs.Roles.{is_a, is_dirterm, as_name, as_literal, as_dirterm}
use Rattle.action_tree.specs.Expressions.{IsA, Opens, bound_at, Binds, limited_text}
use Rattle.action_tree.proofs.NameLemmas.{names, numbers}

-- ---- tokens

-- a word is one, and a number is not too long
pub record IsSound (t : Lexeme) : Type 0 where
  pub words : t.kind ≡ Word → is_word t.text ≡ true
  pub numbers : t.kind ≡ Number → has_few_digits (lexeme_value t) ≡ true

pub name_sound : (t : Lexeme) → IsSound t → is_a AName t ≡ true → IsName (as_name t)
name_sound t s e =
    let f : (is_kind Word t && not (is_reserved t.text)) ≡ true = sym (names t) ∙ e in
    and_from _ _ (s.words (kind_is Word t (left_of _ _ f))) (right_of _ _ f)

pub number_sound : (t : Lexeme) → IsSound t → is_a ANumber t ≡ true → IsNumberToken (as_literal t)
number_sound t s e = s.numbers (kind_is Number t (sym (numbers t) ∙ e))

digit_small : (b : ℕ) → is_digit b ≡ true → b - 48 ≤ 9
digit_small b e = grind (arith, nat_tests)

value_small : (digits : List ℕ) → list_all is_digit digits ≡ true → number_value digits < 10 ^ length digits
value_small [] e = omega arith
value_small (b ∷ digits) e =
    let more : number_value digits < 10 ^ length digits = value_small digits (right_of (is_digit b) (list_all is_digit digits) e) in
    let first : (b - 48) * 10 ^ length digits ≤ 9 * 10 ^ length digits = mul-le-mul_right (10 ^ length digits) (digit_small b (left_of _ _ e)) in
    let whole : 10 ^ suc (length digits) ≡ 10 * 10 ^ length digits = pow-succ' 10 (length digits) in omega arith

number_small : (text rest : List ℕ) → Cuts Number text rest → length text ≤ most_bytes Number → has_few_digits (number_value text) ≡ true
number_small text rest (number {b = b} {bytes = bytes} d all stops) few = lt-ltb _ _ (small_within (number_value (b ∷ bytes)) (length (b ∷ bytes)) 9 (value_small (b ∷ bytes) (and_from _ _ d all)) few)

cut_sound : (t : Lexeme) → IsCut t → IsSound t
cut_sound t c = record {
  words = λ e. cut_is_word t.text c.behind (subst (λ (k : TokenKind). Cuts k t.text c.behind) e c.cuts) (subst (λ (k : TokenKind). length t.text ≤ most_bytes k) e c.sized);
  numbers = λ e. number_small t.text c.behind (subst (λ (k : TokenKind). Cuts k t.text c.behind) e c.cuts) (subst (λ (k : TokenKind). length t.text ≤ most_bytes k) e c.sized);
}

-- ---- symbols

abbrev pub SoundToken : Option Lexeme → Type 0
SoundToken None = Unit {0}
SoundToken (Some t) = IsSound t

-- no refusal, and sound tokens
abbrev pub IsFine : List Symbol → Type 0
IsFine [] = Unit {0}
IsFine (x ∷ xs) = (x.fault ≡ None) × SoundToken x.token × IsFine xs

pub fine_parts : (xs ys : List Symbol) → IsFine (xs ++ ys) → IsFine xs × IsFine ys
fine_parts [] ys f = (tt, f)
fine_parts (x ∷ xs) ys f = let p = fine_parts xs ys f.2 in ((f.0, f.1, p.0), p.1)

pub cut_front : (us vs : List Lexeme) → AreCut (us ++ vs) → AreCut us
cut_front [] vs s = tt
cut_front (u ∷ us) vs s = (s.0, cut_front us vs s.1)

symbol_sound : (o : Option Lexeme) (ts : List Lexeme) → AreCut (with_token o ts) → SoundToken o × AreCut ts
symbol_sound None ts s = (tt, s)
symbol_sound (Some t) ts s = (cut_sound t s.0, s.1)

pub fine_text : (xs : List Symbol) → first_fault xs ≡ None → AreCut (tokens xs) → IsFine xs
fine_text [] e s = tt
fine_text (x ∷ xs) e s =
    let o = or_else_none x.fault (first_fault xs) e in
    let t = symbol_sound x.token (tokens xs) s in
    (o.0, t.0, fine_text xs o.1 t.1)

-- ---- one token

pub name_of : (xs : List Symbol) (t : Lexeme) → IsA AName xs t → IsFine xs → IsName (as_name t)
name_of xs t (is_one u e) f = name_sound u f.1 e

pub number_of : (xs : List Symbol) (t : Lexeme) → IsA ANumber xs t → IsFine xs → IsNumberToken (as_literal t)
number_of xs t (is_one u e) f = number_sound u f.1 e

pub dirterm_of : (xs : List Symbol) (t : Lexeme) → IsOne is_dirterm no_limit xs t → IsFine xs → OfDirTerm (as_dirterm t)
dirterm_of xs t (is_one u e) f = by (is_a ANumber u) refl e
  where
    by : (b : Bool) → is_a ANumber u ≡ b → (b || is_a AName u) ≡ true → OfDirTerm (cond b (fixed (as_literal u)) (held (as_name u)))
    by true n e = dir_number (number_sound u f.1 n)
    by false n e = dir_name (name_sound u f.1 e)

open_by : (n : ℕ) (t : Lexeme) → refusal_of t (deep_at n t) ≡ None → n ≡ suc (less n)
open_by zero t e = absurd cc
open_by (suc n) t e = refl

-- what opens a level had one left, and what binds a name too
pub opened : (r : Role) (n : ℕ) (xs : List Symbol) (t : Lexeme) → Opens r n xs t → IsFine xs → n ≡ suc (less n)
opened r n xs t (is_one u e) f = open_by n u f.0

bind_by : (n : ℕ) (t : Lexeme) → refusal_of t (bound_at n t) ≡ None → n ≡ suc (less n)
bind_by zero t e = absurd cc
bind_by (suc n) t e = refl

pub bound : (left : ℕ) (xs : List Symbol) (t : Lexeme) → Binds left xs t → IsFine xs → (left ≡ suc (less left)) × IsName (as_name t)
bound left xs t (is_one u e) f = (bind_by left u f.0, name_sound u f.1 e)

-- what came had room left
pub roomy : (starts : Lexeme → Bool) (over : Lexeme → Option RefusalKind) (room : ℕ) (ys : List Symbol) → BeginsWith starts over ys → IsFine (limited_text room ys) → (room ≡ suc (less room)) × IsFine ys
roomy starts over zero ys b f =
    let g : IsFine (symbol b.t (Some (past_kind (over b.t))) ∷ b.more) = subst IsFine (ap past b.parts ∙ past_first b.t (over b.t) b.more) f in
    let h : refusal_of b.t (Some (past_kind (over b.t))) ≡ None = g.0 in
    absurd cc
roomy starts over (suc room) ys b f = (refl, f)

-- an element behind a sign had room left, and it is fine as what stands behind it is
pub element_fine : (starts : Lexeme → Bool) (over : Lexeme → Option RefusalKind) (room : ℕ) (xs ys zs : List Symbol) → BeginsWith starts over ys → IsFine ((xs ++ limited_text room ys) ++ zs) → (room ≡ suc (less room)) × IsFine ys × IsFine zs
element_fine starts over room xs ys zs b f =
    let a = fine_parts (xs ++ limited_text room ys) zs f in
    let r = roomy starts over room ys b (fine_parts xs (limited_text room ys) a.0).1 in
    (r.0, r.1, a.1)
