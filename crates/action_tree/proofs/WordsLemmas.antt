-- A word is ASCII, and not too long.
use Rattle.std.proofs.Common.{◌≡◌, ℕ, zero, suc, ◌<◌, ◌≤◌, Bool, true, false, ◌&&◌, ◌||◌, List, [], ◌∷◌, length, arith, refl}
use Rattle.std.specs.Prelude.{nat_le, ◌==◌, IsAscii}
use Rattle.std.specs.List.{list_all}
use Rattle.std.proofs.lemmas.Bool.{eqb-true, ltb-true, lt-ltb, and_from}
use Rattle.text_tokens.specs.Text.{is_letter, is_digit, is_word_byte, Cuts, word, most_bytes}
use Rattle.text_tokens.specs.declared.token.TokenKind.TheVariants.{Word}
use Rattle.action_tree.specs.Words.{is_word}
use Rattle.action_tree.proofs.Conditions.{left_of, right_of, upto}

-- whichever of two tests passes
by_either : (a b : Bool) {P : Type 0} → (a ≡ true → P) → (b ≡ true → P) → (a || b) ≡ true → P
by_either true b f g e = f refl
by_either false b f g e = g e

letter_is_ascii : (b : ℕ) → is_letter b ≡ true → b < 128
letter_is_ascii b =
    by_either ((nat_le 65 b && nat_le b 90) || (nat_le 97 b && nat_le b 122)) (b == 95)
    (by_either (nat_le 65 b && nat_le b 90) (nat_le 97 b && nat_le b 122) (λ e. omega (arith, upto 65 b 90 e)) (λ e. omega (arith, upto 97 b 122 e)))
    (λ e. omega (arith, eqb-true b 95 e))

byte_is_ascii : (b : ℕ) → is_word_byte b ≡ true → b < 128
byte_is_ascii b = by_either (is_letter b) (is_digit b) (letter_is_ascii b) (λ e. omega (arith, upto 48 b 57 e))

bytes_are_ascii : (bytes : List ℕ) → list_all is_word_byte bytes ≡ true → IsAscii bytes
bytes_are_ascii [] e i = omega arith
bytes_are_ascii (b ∷ bytes) e zero = byte_is_ascii b (left_of _ _ e)
bytes_are_ascii (b ∷ bytes) e (suc i) = bytes_are_ascii bytes (right_of _ _ e) i

pub word_is_ascii : (text : List ℕ) → is_word text ≡ true → IsAscii text
word_is_ascii [] e i = omega arith
word_is_ascii (b ∷ bytes) e zero = letter_is_ascii b (left_of _ _ (left_of _ _ e))
word_is_ascii (b ∷ bytes) e (suc i) = bytes_are_ascii bytes (right_of _ _ (left_of _ _ e)) i

pub word_is_cut : (text : List ℕ) → is_word text ≡ true → Cuts Word text [] × (length text ≤ most_bytes Word)
word_is_cut [] e = absurd cc
word_is_cut (b ∷ bytes) e = (word (left_of _ _ (left_of _ _ e)) (right_of _ _ (left_of _ _ e)) tt, omega (arith, ltb-true (length bytes) 24 (right_of _ _ e)))

pub cut_is_word : (text rest : List ℕ) → Cuts Word text rest → length text ≤ most_bytes Word → is_word text ≡ true
cut_is_word text rest (word l bytes stops) few = and_from _ _ (and_from _ _ l bytes) (lt-ltb _ _ (omega (arith, few)))
