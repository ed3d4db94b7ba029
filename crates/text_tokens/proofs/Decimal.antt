-- Digits, and what they stand for.
use Rattle.std.proofs.Common.{◌≡◌, ℕ, zero, suc, ◌+◌, ◌-◌, ◌*◌, ◌^◌, ◌<◌, ◌≤◌, true, false, List, [], ◌∷◌, ◌++◌, length, get_or, take, drop, refl, sym, ap, ◌∙◌, arith, drop-cons, length-drop, length-append, add-one}
use Rattle.std.proofs.lemmas.List.{drop_all, take_more}
use Rattle.std.proofs.Math.Nat.{add-mul, mul_assoc, mul_comm, pow-succ', pow-le-pow_right}
use Rattle.std.proofs.lemmas.Bool.Decides.{nat_tests}
use Rattle.std.proofs.lemmas.Bool.{and_parts}
use Rattle.std.specs.List.{list_all, prefix_len}
use Rattle.text_tokens.specs.Text.{is_digit}
use Rattle.text_tokens.specs.Cursor.{number_value}

digit_passes : (digits : List ℕ) (i : ℕ) → i < length digits → list_all is_digit digits ≡ true → is_digit (get_or digits i 0) ≡ true
digit_passes [] i lt e = absurd (omega arith)
digit_passes (b ∷ digits) zero lt e = (and_parts (is_digit b) (list_all is_digit digits) e).0
digit_passes (b ∷ digits) (suc i) lt e = digit_passes digits i (omega arith) (and_parts (is_digit b) (list_all is_digit digits) e).1

pub digit_range : (b : ℕ) → is_digit b ≡ true → (48 ≤ b) × (b ≤ 57)
digit_range b e = grind (arith, nat_tests)

pub digit_at : (digits : List ℕ) (i : ℕ) → i < length digits → list_all is_digit digits ≡ true → (48 ≤ get_or digits i 0) × (get_or digits i 0 ≤ 57)
digit_at digits i lt e = digit_range (get_or digits i 0) (digit_passes digits i lt e)

shift : (v d p r : ℕ) → (10 * v + d) * p + r ≡ v * (10 * p) + (d * p + r)
shift v d p r =
    let a : (10 * v + d) * p ≡ 10 * v * p + d * p = add-mul (10 * v) d p in
    let b : 10 * v * p ≡ v * (10 * p) = ap (λ (x : ℕ). x * p) (mul_comm 10 v) ∙ mul_assoc v 10 p in
    omega arith

pub value_step : (digits : List ℕ) (i v : ℕ) → i < length digits
    → (10 * v + (get_or digits i 0 - 48)) * 10 ^ (length digits - (i + 1)) + number_value (drop (i + 1) digits) ≡ v * 10 ^ (length digits - i) + number_value (drop i digits)
value_step digits i v lt =
    let n : length digits - i ≡ suc (length digits - (i + 1)) = omega arith in
    let p : 10 ^ (length digits - i) ≡ 10 * 10 ^ (length digits - (i + 1)) = ap (λ (k : ℕ). 10 ^ k) n ∙ pow-succ' 10 (length digits - (i + 1)) in
    let s : drop (suc i) digits ≡ drop (i + 1) digits = ap (λ (k : ℕ). drop k digits) (sym (add-one i)) in
    let l : length (drop (suc i) digits) ≡ length digits - (i + 1) = ap length s ∙ length-drop (i + 1) digits in
    let r : number_value (drop i digits) ≡ (get_or digits i 0 - 48) * 10 ^ (length digits - (i + 1)) + number_value (drop (i + 1) digits) =
    ap number_value (drop-cons digits i 0 lt) ∙ ap (λ (k : ℕ). (get_or digits i 0 - 48) * 10 ^ k + number_value (drop (suc i) digits)) l ∙ ap (λ (ds : List ℕ). (get_or digits i 0 - 48) * 10 ^ (length digits - (i + 1)) + number_value ds) s in
    shift v (get_or digits i 0 - 48) (10 ^ (length digits - (i + 1))) (number_value (drop (i + 1) digits))
    ∙ ap (λ (q : ℕ). v * q + ((get_or digits i 0 - 48) * 10 ^ (length digits - (i + 1)) + number_value (drop (i + 1) digits))) (sym p)
    ∙ ap (λ (q : ℕ). v * 10 ^ (length digits - i) + q) (sym r)

pub small_step : (v d i : ℕ) → v < 10 ^ i → d ≤ 9 → 10 * v + d < 10 ^ (i + 1)
small_step v d i lt le =
    let p : 10 ^ (i + 1) ≡ 10 * 10 ^ i = ap (λ (k : ℕ). 10 ^ k) (add-one i) ∙ pow-succ' 10 i in
    omega arith

pub small_within : (v i n : ℕ) → v < 10 ^ i → i ≤ n → v < 10 ^ n
small_within v i n lt le = let h : 10 ^ i ≤ 10 ^ n = pow-le-pow_right (omega arith) le in omega arith

pub value_end : (digits : List ℕ) (i v : ℕ) → length digits ≤ i → v * 10 ^ (length digits - i) + number_value (drop i digits) ≡ v
value_end digits i v le =
    let n : length digits - i ≡ 0 = omega arith in
    rw (n, drop_all i digits le) (omega arith)

-- ---- digits as they are scanned

more_by : (x p q v w d : ℕ) → q ≡ 10 * p → w ≡ 10 * v + d → x * q + w ≡ 10 * (x * p + v) + d
more_by x p q v w d e f =
    let m : x * q ≡ 10 * (x * p) = ap (λ (k : ℕ). x * k) e ∙ sym (mul_assoc x 10 p) ∙ ap (λ (k : ℕ). k * p) (mul_comm x 10) ∙ mul_assoc 10 x p in
    omega arith

number_value-more : (digits : List ℕ) (b : ℕ) → number_value (digits ++ b ∷ []) ≡ 10 * number_value digits + (b - 48)
number_value-more [] b = omega arith
number_value-more (d ∷ digits) b =
    let l : length (digits ++ b ∷ []) ≡ suc (length digits) = simp length-append (omega arith) in
    more_by (d - 48) (10 ^ length digits) (10 ^ length (digits ++ b ∷ [])) (number_value digits) (number_value (digits ++ b ∷ [])) (b - 48)
    (ap (λ (k : ℕ). 10 ^ k) l ∙ pow-succ' 10 (length digits)) (number_value-more digits b)

pub value_more : (bytes : List ℕ) (i : ℕ) → i < length bytes → number_value (take (i + 1) bytes) ≡ 10 * number_value (take i bytes) + (get_or bytes i 0 - 48)
value_more bytes i lt = ap number_value (take_more bytes i 0 lt) ∙ number_value-more (take i bytes) (get_or bytes i 0)

pub digit_more : (bytes : List ℕ) (i : ℕ) → i < length bytes → is_digit (get_or bytes i 0) ≡ true → prefix_len is_digit (drop i bytes) ≡ 1 + prefix_len is_digit (drop (i + 1) bytes)
digit_more bytes i lt e = rw (add-one, drop-cons bytes i 0 lt, e) refl

pub no_digit : (bytes : List ℕ) (i : ℕ) → i < length bytes → is_digit (get_or bytes i 0) ≡ false → prefix_len is_digit (drop i bytes) ≡ 0
no_digit bytes i lt e = rw (drop-cons bytes i 0 lt, e) refl

pub no_digit_left : (bytes : List ℕ) (i : ℕ) → length bytes ≤ i → prefix_len is_digit (drop i bytes) ≡ 0
no_digit_left bytes i le = rw (drop_all i bytes le) refl
