-- The number that a word writes.
use Rattle.std.proofs.Common.{◌≡◌, ℕ, ◌^◌, ◌<◌, ◌≤◌, ◌&&◌, List, [], ◌∷◌, Bool, true, false, Some, None, length, get_or, true≢false, refl, ap, sym, subst, ◌∙◌, arith}
use Rattle.std.specs.Prelude.{if◌then◌else◌, nat_le, nat_lt, Decides}
use Rattle.std.specs.List.{list_all}
use Rattle.std.specs.Str.{all_ascii_digits}
use Rattle.std.proofs.lemmas.Bool.Decides.{Decides-and, Decides-ltb, nat_tests}
use Rattle.std.specs.Char.{is_ascii_digit}
use Rattle.std.specs.Str.Parse.{IsNumeral, digits_value, without_leading_plus}
use Rattle.std.proofs.lemmas.Str.Parse.{IsNumeralModel, numerals_by_value, tells_all_ascii_digits, without_leading_plus_none}
use Rattle.std.proofs.lemmas.Bool.{and_parts}
use Rattle.commands.specs.Words.{IsNumberWord, are_few_digits, is_number_word, number_of}

decides_le : (a b : ℕ) → Decides (nat_le a b) (a ≤ b)
decides_le a b = ((λ e. grind (arith, nat_tests)), (λ le. grind (arith, nat_tests)))

-- the tests say that it is one
pub decides_number : (digits : List ℕ) → Decides (is_number_word digits) (IsNumberWord digits (digits_value 10 digits))
unfolding is_number_word
decides_number digits = (to, back)
  where
    Few : Type 0
    Few = (length digits ≤ 10) × (list_all is_ascii_digit digits ≡ true)

    Number : Type 0
    Number = (1 ≤ length digits) × (digits_value 10 digits < 2 ^ 32)

    few : Decides (are_few_digits digits) Few
    few = Decides-and (nat_le (length digits) 10) (list_all is_ascii_digit digits) (decides_le (length digits) 10) (λ e. e, λ e. e)

    number : Decides (nat_le 1 (length digits) && nat_lt (digits_value 10 digits) (2 ^ 32)) Number
    number = Decides-and (nat_le 1 (length digits)) (nat_lt (digits_value 10 digits) (2 ^ 32)) (decides_le 1 (length digits)) (Decides-ltb (digits_value 10 digits) (2 ^ 32))

    parts : Decides (is_number_word digits) (Few × Number)
    parts = Decides-and (are_few_digits digits) (nat_le 1 (length digits) && nat_lt (digits_value 10 digits) (2 ^ 32)) few number

    to : is_number_word digits ≡ true → IsNumberWord digits (digits_value 10 digits)
    to e = let p = parts.0 e in record { some = p.1.0; few = p.0.0; all = p.0.1; value = refl; small = p.1.1 }

    back : IsNumberWord digits (digits_value 10 digits) → is_number_word digits ≡ true
    back s = parts.1 ((s.few, s.all), (s.some, s.small))

not_digits : (digits : List ℕ) → are_few_digits digits ≡ false → is_number_word digits ≡ false
unfolding is_number_word
not_digits digits e = ap (λ (b : Bool). b && (nat_le 1 (length digits) && nat_lt (digits_value 10 digits) (2 ^ 32))) e

pub is_number : (digits : List ℕ) → is_number_word digits ≡ true → number_of digits ≡ Some (digits_value 10 digits)
unfolding number_of
is_number digits e = ap (λ (b : Bool). if b then Some (digits_value 10 digits) else None) e

pub is_no_number : (digits : List ℕ) → is_number_word digits ≡ false → number_of digits ≡ None
unfolding number_of
is_no_number digits e = ap (λ (b : Bool). if b then Some (digits_value 10 digits) else None) e

pub many_are_none : (digits : List ℕ) → are_few_digits digits ≡ false → number_of digits ≡ None
many_are_none digits e = is_no_number digits (not_digits digits e)

as_told : (digits : List ℕ) → all_ascii_digits digits ≡ list_all is_ascii_digit digits
as_told [] = refl
as_told (d ∷ digits) = ap (λ (b : Bool). is_ascii_digit d && b) (as_told digits)

numerals : IsNumeralModel (λ digits. all_ascii_digits digits ≡ true) (digits_value 10)
numerals = numerals_by_value (λ digits. all_ascii_digits digits ≡ true) tells_all_ascii_digits

-- a few digits have no sign, and are read as they stand
module _ (digits : List ℕ) (few : are_few_digits digits ≡ true) where
  parts : (length digits ≤ 10) × (list_all is_ascii_digit digits ≡ true)
  parts = let p = and_parts (nat_le (length digits) 10) (list_all is_ascii_digit digits) few in ((decides_le (length digits) 10).0 p.0, p.1)

  no_plus : without_leading_plus digits ≡ digits
  no_plus = without_leading_plus_none digits (by digits parts.1)
    where
      by : (ds : List ℕ) → list_all is_ascii_digit ds ≡ true → get_or ds 0 0 ≡ 43 → ⊥
      by [] e p = absurd (cc)
      by (d ∷ ds) e p = let digit : is_ascii_digit d ≡ true = (and_parts (is_ascii_digit d) (list_all is_ascii_digit ds) e).0 in absurd (true≢false (sym digit ∙ ap is_ascii_digit p))

  pub as_number : (number : ℕ) → (IsNumeral 10 (without_leading_plus digits) × (digits_value 10 (without_leading_plus digits) < 2 ^ 32)) × (number ≡ digits_value 10 (without_leading_plus digits)) → number_of digits ≡ Some number
  as_number number r =
      let is : number ≡ digits_value 10 digits = r.1 ∙ ap (digits_value 10) no_plus in
      let numeral : IsNumeral 10 digits = subst (IsNumeral 10) no_plus r.0.0 in
      let small : digits_value 10 digits < 2 ^ 32 = subst (λ ds. digits_value 10 ds < 2 ^ 32) no_plus r.0.1 in
      is_number digits ((decides_number digits).1 (record { some = numeral.0; few = parts.0; all = parts.1; value = refl; small = small })) ∙ ap Some (sym is)

  pub as_none : ¬ (IsNumeral 10 (without_leading_plus digits) × (digits_value 10 (without_leading_plus digits) < 2 ^ 32)) → number_of digits ≡ None
  as_none none = is_no_number digits (by (is_number_word digits) refl)
    where
      by : (b : Bool) → is_number_word digits ≡ b → is_number_word digits ≡ false
      by true e =
          let s = (decides_number digits).0 e in
          let read : IsNumeral 10 digits × (digits_value 10 digits < 2 ^ 32) = ((s.some, numerals.to digits (as_told digits ∙ s.all)), s.small) in
          absurd (none (subst (λ ds. IsNumeral 10 ds × (digits_value 10 ds < 2 ^ 32)) (sym no_plus) read))
      by false e = e
