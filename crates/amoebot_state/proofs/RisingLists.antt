-- Lists whose elements rise by a number.
use Rattle.std.proofs.Common.{◌≡◌, ◌<◌, ◌≤◌, ◌+◌, ℕ, zero, suc, List, [], ◌∷◌, ◌++◌, map, filter, Bool, ap, sym, ◌∙◌, refl, subst, inl, inr, arith, Option, Some, None}
use Rattle.std.specs.Prelude.{slice_index}
use Rattle.std.specs.List.Sorted.{IsStrictlyIncreasing}
use Rattle.std.proofs.lemmas.Bool.{cases_Bool}
use Rattle.std.specs.List.{AllPairs, filter_map, range_with_len}
use Rattle.amoebot_state.proofs.Members.{Has, here, later, has_cases, not_in_none, map_has, Has-map, filter_has, filter_map_has, Has-append_cases, Contains-from_Has}

-- the number of each element is below those of all that follow
pub data Rising {A : Type 0} (key : A → ℕ) : List A → Type 0 where
  none : Rising key []
  more : {x : A} {xs : List A} → ((y : A) → Has y xs → key x < key y) → Rising key xs → Rising key (x ∷ xs)

pub Rising-append : {A : Type 0} (key : A → ℕ) {xs ys : List A} → Rising key xs → Rising key ys → ((x y : A) → Has x xs → Has y ys → key x < key y) → Rising key (xs ++ ys)
Rising-append key none ys below = ys
Rising-append key (more {x = x} {xs = xs} lt rest) ys below = more
    (λ y has. elim (Has-append_cases xs has) [ inl h ↦ lt y h | inr h ↦ below x y here h ])
    (Rising-append key rest ys (λ z y hz hy. below z y (later hz) hy))

pub Rising-map : {A B : Type 0} (old : A → ℕ) (new : B → ℕ) (f : A → B) {xs : List A} → ((x : A) → Has x xs → new (f x) ≡ old x) → Rising old xs → Rising new (map f xs)
Rising-map old new f same none = none
Rising-map old new f same (more {x = x} {xs = xs} lt rest) = more
    (λ y has. let found = map_has f xs has in omega (arith, lt found.0 found.1, same x here, same found.0 (later found.1), ap new found.2))
    (Rising-map old new f (λ z h. same z (later h)) rest)

pub Rising-filter_map : {A B : Type 0} (old : A → ℕ) (new : B → ℕ) (h : A → Option B) → ((x : A) (y : B) → h x ≡ Some y → new y ≡ old x) → {xs : List A} → Rising old xs → Rising new (filter_map h xs)
Rising-filter_map old new h same none = none
Rising-filter_map {A} {B} old new h same (more {x = x} {xs = xs} lt rest) = elim (h x) as (λ o. h x ≡ o → Rising new (filter_map h (x ∷ xs))) [
  | None ↦ λ e. rw e (Rising-filter_map old new h same rest)
  | Some y ↦ λ e. rw e (more {x = y} (λ z has. let found = filter_map_has h xs has in omega (arith, lt found.0 found.1, same x y e, same found.0 z found.2)) (Rising-filter_map old new h same rest))
] refl

pub Rising-filter : {A : Type 0} (key : A → ℕ) (p : A → Bool) {xs : List A} → Rising key xs → Rising key (filter p xs)
Rising-filter key p none = none
Rising-filter {A} key p (more {x = x} {xs = xs} lt rest) = elim (cases_Bool (p x)) [
  | inl t ↦ rw t (more (λ y has. lt y (filter_has p xs has).0) (Rising-filter key p rest))
  | inr f ↦ rw f (Rising-filter key p rest)
]

-- another number that rises where the first does
pub Rising-weaker : {A : Type 0} (old new : A → ℕ) {xs : List A} → ((x y : A) → Has x xs → Has y xs → old x < old y → new x < new y) → Rising old xs → Rising new xs
Rising-weaker old new within none = none
Rising-weaker old new within (more {x = x} {xs = xs} lt rest) = more
    (λ y has. within x y here (later has) (lt y has))
    (Rising-weaker old new (λ z y hz hy. within z y (later hz) (later hy)) rest)

pub range_below : (a n k : ℕ) → Has k (range_with_len a n) → (a ≤ k) × (k < a + n)
range_below a zero k has = absurd (not_in_none has)
range_below a (suc n) k has = elim (has_cases has) [
  | inl e ↦ (omega (arith, e), omega (arith, e))
  | inr h ↦ let rest = range_below (a + 1) n k h in (omega (arith, rest.0), omega (arith, rest.1))
]

pub Rising-range : (a n : ℕ) → Rising (λ k. k) (range_with_len a n)
Rising-range a zero = none
Rising-range a (suc n) = more (λ k has. let at = range_below (a + 1) n k has in omega (arith, at.0)) (Rising-range (a + 1) n)

-- a list whose numbers rise from one to the next
pub Rising-from_increasing : {A : Type 0} (key : A → ℕ) (xs : List A) → AllPairs (λ m n. m < n) (map key xs) → Rising key xs
Rising-from_increasing key [] pairs = none
Rising-from_increasing key (x ∷ xs) pairs = more
    (λ y has. let at = Contains-from_Has (map key xs) (Has-map key has) in let lt = pairs 0 (suc at.0) (key y) (omega arith) (omega (arith, at.1)) in omega (arith, lt, at.2))
    (Rising-from_increasing key xs (λ i j d before within. pairs (suc i) (suc j) d (omega arith) (omega arith)))

-- and the other way round
pub increasing-from_Rising : {A : Type 0} (key : A → ℕ) (xs : List A) → Rising key xs → IsStrictlyIncreasing (map key xs)
increasing-from_Rising key [] none k lt = absurd (omega arith)
increasing-from_Rising key (x ∷ []) (more below rest) k lt = absurd (omega arith)
increasing-from_Rising key (x ∷ y ∷ ys) (more below rest) zero lt = below y here
increasing-from_Rising key (x ∷ y ∷ ys) (more below rest) (suc k) lt =
    let at : suc k + 1 ≡ suc (k + 1) = omega arith in
    let P : ℕ → Type 0 = λ z. slice_index (map key (y ∷ ys)) k < slice_index (map key (x ∷ y ∷ ys)) z in
    subst P (sym at) (increasing-from_Rising key (y ∷ ys) rest k (omega arith))

-- two such lists with the same elements are one
pub Rising-same : {A : Type 0} (key : A → ℕ) {xs ys : List A} → Rising key xs → Rising key ys → ((x : A) → Has x xs → Has x ys) → ((x : A) → Has x ys → Has x xs) → xs ≡ ys
Rising-same key none none to from = refl
Rising-same key none (more {x = y} lt rest) to from = absurd (not_in_none (from y here))
Rising-same key (more {x = x} lt rest) none to from = absurd (not_in_none (to x here))
Rising-same {A} key (more {x = x} {xs = xs} ltx restx) (more {x = y} {xs = ys} lty resty) to from =
    let same : x ≡ y = first in
    ap (λ z. z ∷ xs) same ∙ ap (λ zs. y ∷ zs) (Rising-same key restx resty
    (λ z has. elim (has_cases (to z (later has))) [ inl e ↦ absurd (omega (arith, ltx z has, ap key e, ap key same)) | inr h ↦ h ])
    (λ z has. elim (has_cases (from z (later has))) [ inl e ↦ absurd (omega (arith, lty z has, ap key e, ap key same)) | inr h ↦ h ]))
  where
    first : x ≡ y
    first = elim (has_cases (to x here)) [
      | inl e ↦ e
      | inr h ↦ elim (has_cases (from y here)) [ inl e ↦ sym e | inr g ↦ absurd (omega (arith, lty x h, ltx y g)) ]
    ]
