-- Elements of lists by their places, after a write and after a map.
use Rattle.std.proofs.Common.{◌≡◌, ℕ, zero, suc, ◌+◌, ◌<◌, ◌⊎◌, List, [], ◌∷◌, ◌++◌, map, length, get_or, set, Option, Some, None, inl, inr, ap, sym, refl, ◌∙◌, arith}
use Rattle.std.specs.Prelude.{slice_get}
use Rattle.std.proofs.lemmas.Option.{same_Some, none-some, slice_get_within}
use Rattle.amoebot_state.specs.Storage.{put_at}
use Rattle.claim_core.specs.Cells.{at}

pub get-set_here : {A : Type 0} (xs : List A) (i : ℕ) (x : A) → i < length xs → slice_get (set xs i x) i ≡ Some x
get-set_here [] i x inside = absurd (omega arith)
get-set_here (y ∷ ys) zero x inside = refl
get-set_here (y ∷ ys) (suc i) x inside = get-set_here ys i x (omega arith)

pub get-set_else : {A : Type 0} (xs : List A) (i j : ℕ) (x : A) → (j ≡ i → ⊥) → slice_get (set xs i x) j ≡ slice_get xs j
get-set_else [] i j x other = refl
get-set_else (y ∷ ys) zero zero x other = absurd (other refl)
get-set_else (y ∷ ys) zero (suc j) x other = refl
get-set_else (y ∷ ys) (suc i) zero x other = refl
get-set_else (y ∷ ys) (suc i) (suc j) x other = get-set_else ys i j x (λ e. other (ap suc e))

-- what stands in the new list is the new element, or stood there before
pub get-set_cases : {A : Type 0} (xs : List A) (i j : ℕ) (x y : A) → slice_get (set xs i x) j ≡ Some y → ((j ≡ i) × (x ≡ y)) ⊎ ((j ≡ i → ⊥) × (slice_get xs j ≡ Some y))
get-set_cases [] i j x y e = absurd (none-some y e)
get-set_cases (z ∷ zs) zero zero x y e = inl (refl, same_Some x y e)
get-set_cases (z ∷ zs) zero (suc j) x y e = inr ((λ h. omega arith), e)
get-set_cases (z ∷ zs) (suc i) zero x y e = inr ((λ h. omega arith), e)
get-set_cases (z ∷ zs) (suc i) (suc j) x y e = elim (get-set_cases zs i j x y e) [
  | inl same ↦ inl (ap suc same.0, same.1)
  | inr old ↦ inr ((λ h. let n = old.0 in n (omega arith)), old.1)
]

-- elements of joined lists
pub get-append_left : {A : Type 0} (xs ys : List A) (k : ℕ) (x : A) → slice_get xs k ≡ Some x → slice_get (xs ++ ys) k ≡ Some x
get-append_left [] ys k x e = absurd (none-some x e)
get-append_left (z ∷ xs) ys zero x e = e
get-append_left (z ∷ xs) ys (suc k) x e = get-append_left xs ys k x e

pub get-append_right : {A : Type 0} (xs ys : List A) (k j : ℕ) → j ≡ length xs + k → slice_get (xs ++ ys) j ≡ slice_get ys k
get-append_right [] ys k j e = ap (slice_get ys) (let f : j ≡ k = omega arith in f)
get-append_right (z ∷ xs) ys k zero e = absurd (omega arith)
get-append_right (z ∷ xs) ys k (suc j) e = get-append_right xs ys k j (omega arith)

-- what stands at a place of a list of lists
pub of_a_list : {A : Type 0} (xss : List (List A)) (c k : ℕ) (x : A) → slice_get (get_or xss c []) k ≡ Some x → (xs : List A) × (slice_get xss c ≡ Some xs) × (slice_get xs k ≡ Some x)
of_a_list [] c k x e = absurd (none-some x e)
of_a_list (xs ∷ xss) zero k x e = (xs, refl, e)
of_a_list (xs ∷ xss) (suc c) k x e = of_a_list xss c k x e

-- lists with the same elements
pub same_by_get : {A : Type 0} (xs ys : List A) → length xs ≡ length ys → ((k : ℕ) (y : A) → slice_get ys k ≡ Some y → slice_get xs k ≡ Some y) → xs ≡ ys
same_by_get [] [] alike all = refl
same_by_get [] (y ∷ ys) alike all = absurd (omega arith)
same_by_get (x ∷ xs) [] alike all = absurd (omega arith)
same_by_get (x ∷ xs) (y ∷ ys) alike all = λ i. same_Some x y (all 0 y refl) i ∷ same_by_get xs ys (omega arith) (λ k z e. all (suc k) z e) i

-- the same by numbers of cells
module _ {A : Type 0} where
  pub at-put_here : (xs : List A) (o : Option ℕ) (x y : A) → at xs o ≡ Some y → at (put_at xs o x) o ≡ Some x
  at-put_here xs None x y e = absurd (none-some y e)
  at-put_here xs (Some k) x y e = get-set_here xs k x (slice_get_within xs k y e)

  pub at-put_else : (xs : List A) (o p : Option ℕ) (x : A) → (p ≡ o → ⊥) → at (put_at xs o x) p ≡ at xs p
  at-put_else xs None p x other = refl
  at-put_else xs (Some k) None x other = refl
  at-put_else xs (Some k) (Some j) x other = get-set_else xs k j x (λ e. other (ap Some e))

  pub at-put_cases : (xs : List A) (o p : Option ℕ) (x y : A) → at (put_at xs o x) p ≡ Some y → ((p ≡ o) × (x ≡ y)) ⊎ ((p ≡ o → ⊥) × (at xs p ≡ Some y))
  at-put_cases xs None None x y e = absurd (none-some y e)
  at-put_cases xs None (Some j) x y e = inr ((λ h. none-some j (sym h)), e)
  at-put_cases xs (Some k) None x y e = absurd (none-some y e)
  at-put_cases xs (Some k) (Some j) x y e = elim (get-set_cases xs k j x y e) [
    | inl same ↦ inl (ap Some same.0, same.1)
    | inr old ↦ inr ((λ h. old.0 (same_Some j k h)), old.1)
  ]

-- each place of a list holds one element
pub one_at : {A : Type 0} (o : Option A) (x y : A) → o ≡ Some x → o ≡ Some y → x ≡ y
one_at o x y e f = same_Some x y (sym e ∙ f)

-- an element of the image comes from one of the list
pub get-map : {A B : Type 0} (f : A → B) (xs : List A) (i : ℕ) (x : A) → slice_get xs i ≡ Some x → slice_get (map f xs) i ≡ Some (f x)
get-map f [] i x e = absurd (none-some x e)
get-map f (y ∷ ys) zero x e = ap (λ z. Some (f z)) (same_Some y x e)
get-map f (y ∷ ys) (suc i) x e = get-map f ys i x e

pub map-get : {A B : Type 0} (f : A → B) (xs : List A) (i : ℕ) (y : B) → slice_get (map f xs) i ≡ Some y → (x : A) × (slice_get xs i ≡ Some x) × (f x ≡ y)
map-get f [] i y e = absurd (none-some y e)
map-get f (x ∷ xs) zero y e = (x, refl, same_Some (f x) y e)
map-get f (x ∷ xs) (suc i) y e = map-get f xs i y e
