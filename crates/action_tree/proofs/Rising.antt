-- Numbers that never fall, and some of them in their order.
use Rattle.std.proofs.Common.{◌≤◌, ◌<◌, ℕ, zero, suc, List, [], ◌∷◌, ◌++◌, length, get_or, arith}
use Rattle.std.specs.List.Sorted.{IsNonDecreasing}

-- some elements of a list, in its order
pub data Picks : List ℕ → List ℕ → Type 0 where
  over : Picks [] []
  skip : {y : ℕ} {xs ys : List ℕ} → Picks xs ys → Picks xs (y ∷ ys)
  keep : {y : ℕ} {xs ys : List ℕ} → Picks xs ys → Picks (y ∷ xs) (y ∷ ys)

pub picks_none : (ys : List ℕ) → Picks [] ys
picks_none [] = over
picks_none (y ∷ ys) = skip (picks_none ys)

-- with more behind it
pub picks_before : {xs ys : List ℕ} → Picks xs ys → (vs : List ℕ) → Picks xs (ys ++ vs)
picks_before over vs = picks_none vs
picks_before (skip p) vs = skip (picks_before p vs)
picks_before (keep p) vs = keep (picks_before p vs)

pub picks_both : {xs ys us vs : List ℕ} → Picks xs ys → Picks us vs → Picks (xs ++ us) (ys ++ vs)
picks_both over q = q
picks_both (skip p) q = skip (picks_both p q)
picks_both (keep p) q = keep (picks_both p q)

-- ---- none is below an earlier one

abbrev pub AreFrom : ℕ → List ℕ → Type 0
AreFrom x [] = Unit {0}
AreFrom x (y ∷ ys) = (x ≤ y) × AreFrom x ys

abbrev pub Rises : List ℕ → Type 0
Rises [] = Unit {0}
Rises (x ∷ xs) = AreFrom x xs × Rises xs

pub from_lower : (x y : ℕ) (zs : List ℕ) → x ≤ y → AreFrom y zs → AreFrom x zs
from_lower x y [] le least = tt
from_lower x y (z ∷ zs) le least = let first = least.0 in (omega arith, from_lower x y zs le least.1)

from_all : (x : ℕ) (ys : List ℕ) → ((k : ℕ) (d : ℕ) → k < length ys → x ≤ get_or ys k d) → AreFrom x ys
from_all x [] each = tt
from_all x (y ∷ ys) each = (each zero 0 (omega arith), from_all x ys (λ k d below. each (suc k) d (omega arith)))

all_from : (x : ℕ) (ys : List ℕ) → AreFrom x ys → (k d : ℕ) → k < length ys → x ≤ get_or ys k d
all_from x [] least k d below = absurd (omega arith)
all_from x (y ∷ ys) least zero d below = least.0
all_from x (y ∷ ys) least (suc k) d below = all_from x ys least.1 k d (omega arith)

rises : (xs : List ℕ) → IsNonDecreasing xs → Rises xs
rises [] up = tt
rises (x ∷ xs) up = (from_all x xs (λ k d below. up zero (suc k) d (omega arith) (omega arith)), rises xs (λ i j d le below. up (suc i) (suc j) d (omega arith) (omega arith)))

pub never_fall : (xs : List ℕ) → Rises xs → IsNonDecreasing xs
never_fall [] up i j d le below = absurd (omega arith)
never_fall (x ∷ xs) up zero zero d le below = omega arith
never_fall (x ∷ xs) up zero (suc j) d le below = all_from x xs up.0 j d (omega arith)
never_fall (x ∷ xs) up (suc i) zero d le below = absurd (omega arith)
never_fall (x ∷ xs) up (suc i) (suc j) d le below = never_fall xs up.1 i j d (omega arith) (omega arith)

picked_from : (x : ℕ) {ys zs : List ℕ} → Picks ys zs → AreFrom x zs → AreFrom x ys
picked_from x over least = tt
picked_from x (skip p) least = picked_from x p least.1
picked_from x (keep p) least = (least.0, picked_from x p least.1)

picked_rise : {xs ys : List ℕ} → Picks xs ys → Rises ys → Rises xs
picked_rise over up = tt
picked_rise (skip p) up = picked_rise p up.1
picked_rise (keep {y = y} p) up = (picked_from y p up.0, picked_rise p up.1)

-- so what is picked never falls where the list does not
pub picked_never_fall : {xs ys : List ℕ} → Picks xs ys → IsNonDecreasing ys → IsNonDecreasing xs
picked_never_fall {xs} {ys} p up = never_fall xs (picked_rise p (rises ys up))
