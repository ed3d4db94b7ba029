-- Lists whose elements are taken up one by one, each once.
use Rattle.std.proofs.Common.{◌≡◌, List, [], ◌∷◌, ◌++◌, Bool, true, false, not, ◌&&◌, ◌||◌, cond, ap, sym, ◌∙◌, refl, inl, inr, append_assoc, append-nil, filter}
use Rattle.std.specs.List.{list_any, fold}
use Rattle.std.specs.Cmp.{IsEquivalence}
use Rattle.std.proofs.lemmas.Bool.{and_right, cases_Bool, both_ways}
use Rattle.std.proofs.Math.Bool.{or-false}
use Rattle.std.proofs.lemmas.List.Folds.{list_any-append}
use Rattle.amoebot_state.specs.Zones.{distinct}
use Rattle.amoebot_state.specs.Storage.{with_new}

-- x equals an element
abbrev pub is_among : {A : Type 0} → (A → A → Bool) → List A → A → Bool
is_among eq xs x = list_any (λ y. eq y x) xs

-- the elements that equal none of the first list
abbrev pub without : {A : Type 0} → (A → A → Bool) → List A → List A → List A
without eq taken xs = filter (λ y. not (is_among eq taken y)) xs

filter_cons : {A : Type 0} (p : A → Bool) (x : A) (xs : List A) (b : Bool) → p x ≡ b → filter p (x ∷ xs) ≡ cond b (x ∷ filter p xs) (filter p xs)
filter_cons p x xs true e = rw e refl
filter_cons p x xs false e = rw e refl

-- a filter that lets all through that another lets through makes that other one needless before it
pub filter_needless : {A : Type 0} (p q : A → Bool) → ((y : A) → q y ≡ true → p y ≡ true) → (xs : List A) → filter q (filter p xs) ≡ filter q xs
filter_needless p q within [] = refl
filter_needless p q within (x ∷ xs) = elim (cases_Bool (p x)) [
  | inl t ↦ elim (cases_Bool (q x)) [
    | inl u ↦ rw (t, u, filter_needless p q within xs) refl
    | inr f ↦ rw (t, f, filter_needless p q within xs) refl
  ]
  | inr f ↦ elim (cases_Bool (q x)) [
    | inl u ↦ absurd (both_ways _ f (within x u))
    | inr g ↦ rw (f, g, filter_needless p q within xs) refl
  ]
]

-- two filters are one
filter_both : {A : Type 0} (p q r : A → Bool) → ((y : A) → r y ≡ (q y && p y)) → (xs : List A) → filter q (filter p xs) ≡ filter r xs
filter_both p q r both [] = refl
filter_both p q r both (x ∷ xs) = elim (cases_Bool (p x)) [
  | inl t ↦ elim (cases_Bool (q x)) [
    | inl u ↦ ap (filter q) (filter_cons p x xs true t) ∙ filter_cons q x (filter p xs) true u ∙ ap (λ ys. x ∷ ys) (filter_both p q r both xs) ∙ sym (filter_cons r x xs true (both x ∙ ap (λ b. b && p x) u ∙ t))
    | inr f ↦ ap (filter q) (filter_cons p x xs true t) ∙ filter_cons q x (filter p xs) false f ∙ filter_both p q r both xs ∙ sym (filter_cons r x xs false (both x ∙ ap (λ b. b && p x) f))
  ]
  | inr f ↦ ap (filter q) (filter_cons p x xs false f) ∙ filter_both p q r both xs ∙ sym (filter_cons r x xs false (both x ∙ and_right (q x) (p x) f))
]

not_or : (a b : Bool) → not (a || b) ≡ (not a && not b)
not_or true b = refl
not_or false b = refl

among_more : {A : Type 0} (eq : A → A → Bool) (taken : List A) (x y : A) → is_among eq (taken ++ x ∷ []) y ≡ (is_among eq taken y || eq x y)
among_more eq taken x y = list_any-append (λ z. eq z y) taken (x ∷ []) ∙ ap (λ b. is_among eq taken y || b) (or-false (eq x y))

-- an element that equals one of them has its equals among them too
among_like : {A : Type 0} {eq : A → A → Bool} → IsEquivalence eq → (taken : List A) (x y : A) → eq x y ≡ true → is_among eq taken x ≡ is_among eq taken y
among_like {A} {eq} laws [] x y e = refl
among_like {A} {eq} laws (z ∷ taken) x y e = ap (λ b. b || is_among eq taken x) (laws.symm z x ∙ laws.congr x y z e ∙ laws.symm y z) ∙ ap (λ b. eq z y || b) (among_like laws taken x y e)

-- taking up one by one what is new gives what was there and then the distinct elements that were not
pub taken_up : {A : Type 0} {eq : A → A → Bool} → IsEquivalence eq → (xs taken : List A) → fold (with_new eq) taken xs ≡ taken ++ without eq taken (distinct eq xs)
taken_up {A} {eq} laws [] taken = sym (append-nil taken)
taken_up {A} {eq} laws (x ∷ xs) taken = elim (cases_Bool (is_among eq taken x)) [
  | inl t ↦
      let known : (y : A) → not (is_among eq taken y) ≡ true → not (eq x y) ≡ true = λ y new. elim (cases_Bool (eq x y)) [
        | inl same ↦ absurd (both_ways _ (ap not (sym (among_like laws taken x y same) ∙ t)) new)
        | inr other ↦ ap not other
      ] in
      ap (λ ys. fold (with_new eq) ys xs) (ap (λ b. cond b taken (taken ++ x ∷ [])) t)
      ∙ taken_up laws xs taken
      ∙ ap (λ ys. taken ++ ys) (sym (filter_cons (λ y. not (is_among eq taken y)) x (filter (λ y. not (eq x y)) (distinct eq xs)) false (ap not t) ∙ filter_needless (λ y. not (eq x y)) (λ y. not (is_among eq taken y)) known (distinct eq xs)))
  | inr f ↦
      ap (λ ys. fold (with_new eq) ys xs) (ap (λ b. cond b taken (taken ++ x ∷ [])) f)
      ∙ taken_up laws xs (taken ++ x ∷ [])
      ∙ append_assoc taken (x ∷ []) (without eq (taken ++ x ∷ []) (distinct eq xs))
      ∙ ap (λ ys. taken ++ x ∷ ys) (sym (filter_both (λ y. not (eq x y)) (λ y. not (is_among eq taken y)) (λ y. not (is_among eq (taken ++ x ∷ []) y)) (λ y. ap not (among_more eq taken x y) ∙ not_or (is_among eq taken y) (eq x y)) (distinct eq xs)))
      ∙ ap (λ ys. taken ++ ys) (sym (filter_cons (λ y. not (is_among eq taken y)) x (filter (λ y. not (eq x y)) (distinct eq xs)) true (ap not f)))
]

filter_all : {A : Type 0} (xs : List A) → filter (λ y. true) xs ≡ xs
filter_all [] = refl
filter_all (x ∷ xs) = ap (λ ys. x ∷ ys) (filter_all xs)

-- beginning with none, the distinct elements
pub taken_from_none : {A : Type 0} {eq : A → A → Bool} → IsEquivalence eq → (xs : List A) → fold (with_new eq) [] xs ≡ distinct eq xs
taken_from_none laws xs = taken_up laws xs [] ∙ filter_all (distinct _ xs)
