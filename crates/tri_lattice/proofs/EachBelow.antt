-- Tests that go through the numbers below one, and what they answer.
use Rattle.std.proofs.Common.{◌≡◌, ℕ, zero, suc, ◌<◌, Bool, true, false, ◌&&◌, ◌||◌, arith, refl, sym, subst, inl, inr}
use Rattle.std.proofs.lemmas.Bool.{and_parts, and_from, or_cases, or_left, or_right, false≢true, cases_eq}

-- a test holds of every number below n
abbrev pub each_below : ℕ → (ℕ → Bool) → Bool
each_below zero f = true
each_below (suc n) f = each_below n f && f n

pub each_below_at : (n : ℕ) (f : ℕ → Bool) → each_below n f ≡ true → (i : ℕ) → i < n → f i ≡ true
each_below_at zero f e i l = absurd (omega arith)
each_below_at (suc n) f e i l = elim (cases_eq i n) [
  | inl s ↦ subst (λ (k : ℕ). f k ≡ true) (sym s) (and_parts _ _ e).1
  | inr s ↦ each_below_at n f (and_parts _ _ e).0 i (omega arith)
]

pub each_below_from : (n : ℕ) (f : ℕ → Bool) → ((i : ℕ) → i < n → f i ≡ true) → each_below n f ≡ true
each_below_from zero f h = refl
each_below_from (suc n) f h = and_from _ _ (each_below_from n f (λ i l. h i (omega arith))) (h n (omega arith))

-- it holds of some number below n
abbrev pub some_below : ℕ → (ℕ → Bool) → Bool
some_below zero f = false
some_below (suc n) f = some_below n f || f n

pub some_below_at : (n : ℕ) (f : ℕ → Bool) → some_below n f ≡ true → (i : ℕ) × (i < n) × (f i ≡ true)
some_below_at zero f e = absurd (false≢true e)
some_below_at (suc n) f e = elim (or_cases _ _ e) [
  | inl s ↦ (let (i, l, t) = some_below_at n f s in (i, omega arith, t))
  | inr t ↦ (n, omega arith, t)
]

pub some_below_from : (n : ℕ) (f : ℕ → Bool) (i : ℕ) → i < n → f i ≡ true → some_below n f ≡ true
some_below_from zero f i l t = absurd (omega arith)
some_below_from (suc n) f i l t = elim (cases_eq i n) [
  | inl s ↦ or_right _ _ (subst (λ (k : ℕ). f k ≡ true) s t)
  | inr s ↦ or_left _ _ (some_below_from n f i (omega arith) t)
]

-- a test holds of each two directions
pub each_two : (f : ℕ → ℕ → Bool) → each_below 6 (λ i. each_below 6 (f i)) ≡ true → (i j : ℕ) → i < 6 → j < 6 → f i j ≡ true
each_two f e i j li lj = each_below_at 6 (f i) (each_below_at 6 (λ k. each_below 6 (f k)) e i li) j lj
