-- Elements of lists.
use Rattle.std.proofs.Common.{◌≡◌, ◌⊎◌, ◌≤◌, ◌<◌, ◌+◌, ℕ, zero, suc, List, [], ◌∷◌, ◌++◌, length, map, get_or, replicate, Bool, true, not, ap, sym, ◌∙◌, refl, subst, inl, inr, arith, Option, Some, None, filter, take}
use Rattle.std.specs.List.{All, Contains, filter_map, cons_option}
use Rattle.std.proofs.lemmas.Bool.{cases_Bool, cases_lt, both_ways}
use Rattle.std.proofs.lemmas.List.Elements.{All-nil, All-cons, filter_map-append}
use Rattle.std.proofs.lemmas.List.{append_assoc, map_more, take_more, get_or-replicate, length-replicate, get_or_past}
use Rattle.amoebot_state.specs.Zones.{distinct}

-- x is an element
pub data Has {A : Type 0} (x : A) : List A → Type 0 where
  here : {xs : List A} → Has x (x ∷ xs)
  later : {y : A} {xs : List A} → Has x xs → Has x (y ∷ xs)

pub not_in_none : {A : Type 0} {x : A} → Has x [] → ⊥
not_in_none {A} {x} h = gone h refl
  where
    gone : {ys : List A} → Has x ys → ys ≡ [] → ⊥
    gone here e = cc
    gone (later t) e = cc

-- equal lists begin and go on alike
pub same_first : {A : Type 0} {x y : A} {xs ys : List A} → x ∷ xs ≡ y ∷ ys → x ≡ y
same_first e = cc

pub same_rest : {A : Type 0} {x y : A} {xs ys : List A} → x ∷ xs ≡ y ∷ ys → xs ≡ ys
same_rest e = cc

pub has_cases : {A : Type 0} {x y : A} {xs : List A} → Has x (y ∷ xs) → (x ≡ y) ⊎ Has x xs
has_cases {A} {x} {y} {xs} h = split h refl
  where
    split : {zs : List A} → Has x zs → zs ≡ y ∷ xs → (x ≡ y) ⊎ Has x xs
    split here e = inl (same_first e)
    split (later t) e = inr (subst (Has x) (same_rest e) t)

pub Has-append_left : {A : Type 0} {x : A} {xs : List A} (ys : List A) → Has x xs → Has x (xs ++ ys)
Has-append_left ys here = here
Has-append_left ys (later h) = later (Has-append_left ys h)

pub Has-append_right : {A : Type 0} {x : A} (xs : List A) {ys : List A} → Has x ys → Has x (xs ++ ys)
Has-append_right [] h = h
Has-append_right (y ∷ xs) h = later (Has-append_right xs h)

pub Has-append_cases : {A : Type 0} {x : A} (xs : List A) {ys : List A} → Has x (xs ++ ys) → Has x xs ⊎ Has x ys
Has-append_cases [] h = inr h
Has-append_cases {A} {x} (y ∷ xs) h = elim (has_cases h) [
  | inl e ↦ inl (subst (λ z. Has x (z ∷ xs)) e here)
  | inr t ↦ elim (Has-append_cases xs t) [ inl u ↦ inl (later u) | inr u ↦ inr u ]
]

pub Has-map : {A B : Type 0} (f : A → B) {x : A} {xs : List A} → Has x xs → Has (f x) (map f xs)
Has-map f here = here
Has-map f (later h) = later (Has-map f h)

pub map_has : {A B : Type 0} (f : A → B) {y : B} (xs : List A) → Has y (map f xs) → (x : A) × Has x xs × (y ≡ f x)
map_has f [] h = absurd (not_in_none h)
map_has f (x ∷ xs) h = elim (has_cases h) [
  | inl e ↦ (x, here, e)
  | inr t ↦ let found = map_has f xs t in (found.0, later found.1, found.2)
]

pub Has-filter : {A : Type 0} (p : A → Bool) {x : A} (xs : List A) → Has x xs → p x ≡ true → Has x (filter p xs)
Has-filter p [] h t = absurd (not_in_none h)
Has-filter {A} p {x} (y ∷ xs) h t = elim (cases_Bool (p y)) [
  | inl u ↦ rw u (elim (has_cases h) [ inl e ↦ subst (λ z. Has x (z ∷ filter p xs)) e here | inr r ↦ later (Has-filter p xs r t) ])
  | inr f ↦ rw f (elim (has_cases h) [ inl e ↦ absurd (both_ways _ f (ap p (sym e) ∙ t)) | inr r ↦ Has-filter p xs r t ])
]

pub filter_has : {A : Type 0} (p : A → Bool) {x : A} (xs : List A) → Has x (filter p xs) → Has x xs × (p x ≡ true)
filter_has p [] = λ h. absurd (not_in_none h)
filter_has {A} p {x} (y ∷ xs) = elim (cases_Bool (p y)) as (λ _. Has x (filter p (y ∷ xs)) → Has x (y ∷ xs) × (p x ≡ true)) [
  | inl u ↦ rw u (λ h. elim (has_cases h) [ inl e ↦ (subst (λ z. Has x (z ∷ xs)) e here, ap p e ∙ u) | inr r ↦ let rest = filter_has p xs r in (later rest.0, rest.1) ])
  | inr f ↦ rw f (λ h. let rest = filter_has p xs h in (later rest.0, rest.1))
]

pub Has-filter_map : {A B : Type 0} (h : A → Option B) {x : A} {y : B} (xs : List A) → Has x xs → h x ≡ Some y → Has y (filter_map h xs)
Has-filter_map h [] has e = absurd (not_in_none has)
Has-filter_map {A} {B} h {x} {y} (z ∷ xs) has e = elim (has_cases has) [
  | inl same ↦ let s : h z ≡ Some y = ap h (sym same) ∙ e in rw s here
  | inr r ↦ let rest = Has-filter_map h xs r e in elim (h z) as (λ o. h z ≡ o → Has y (filter_map h (z ∷ xs))) [ None ↦ λ s. rw s rest | Some w ↦ λ s. rw s (later rest) ] refl
]

pub filter_map_has : {A B : Type 0} (h : A → Option B) {y : B} (xs : List A) → Has y (filter_map h xs) → (x : A) × Has x xs × (h x ≡ Some y)
filter_map_has h [] = λ has. absurd (not_in_none has)
filter_map_has {A} {B} h {y} (z ∷ xs) = elim (h z) as (λ o. h z ≡ o → Has y (filter_map h (z ∷ xs)) → (x : A) × Has x (z ∷ xs) × (h x ≡ Some y)) [
  | None ↦ λ s. rw s (λ has. let found = filter_map_has h xs has in (found.0, later found.1, found.2))
  | Some w ↦ λ s. rw s (λ has. elim (has_cases has) [
    | inl e ↦ (z, here, s ∙ ap Some (sym e))
    | inr r ↦ let found = filter_map_has h xs r in (found.0, later found.1, found.2)
  ])
] refl

-- functions that are alike on the elements give the same
pub filter_map-same : {A B : Type 0} (g h : A → Option B) (xs : List A) → ((x : A) → Has x xs → g x ≡ h x) → filter_map g xs ≡ filter_map h xs
filter_map-same g h [] same = refl
filter_map-same g h (x ∷ xs) same = ap (λ o. cons_option o (filter_map g xs)) (same x here) ∙ ap (cons_option (h x)) (filter_map-same g h xs (λ y has. same y (later has)))

-- the distinct elements are the elements
pub Has-distinct : {A : Type 0} (eq : A → A → Bool) → ((x y : A) → eq x y ≡ true → x ≡ y) → {x : A} (xs : List A) → Has x xs → Has x (distinct eq xs)
Has-distinct eq exact [] h = absurd (not_in_none h)
Has-distinct {A} eq exact {x} (y ∷ xs) h = elim (cases_Bool (eq y x)) [
  | inl t ↦ subst (λ z. Has x (z ∷ filter (λ w. not (eq y w)) (distinct eq xs))) (sym (exact y x t)) here
  | inr f ↦ elim (has_cases h) [
    | inl e ↦ subst (λ z. Has x (z ∷ filter (λ w. not (eq y w)) (distinct eq xs))) e here
    | inr r ↦ later (Has-filter (λ w. not (eq y w)) (distinct eq xs) (Has-distinct eq exact xs r) (ap not f))
  ]
]

pub distinct_has : {A : Type 0} (eq : A → A → Bool) {x : A} (xs : List A) → Has x (distinct eq xs) → Has x xs
distinct_has eq [] h = h
distinct_has {A} eq {x} (y ∷ xs) h = elim (has_cases h) [
  | inl e ↦ subst (λ z. Has x (z ∷ xs)) e here
  | inr r ↦ later (distinct_has eq xs (filter_has (λ w. not (eq y w)) (distinct eq xs) r).0)
]

pub All-from_Has : {A : Type 0} (P : A → Type 0) (xs : List A) → ((x : A) → Has x xs → P x) → All P xs
All-from_Has P [] each = All-nil P
All-from_Has P (x ∷ xs) each = All-cons P x xs (each x here) (All-from_Has P xs (λ y h. each y (later h)))

pub Contains-from_Has : {A : Type 0} {x : A} (xs : List A) → Has x xs → Contains xs x
Contains-from_Has [] h = absurd (not_in_none h)
Contains-from_Has {A} {x} (y ∷ xs) h = elim (has_cases h) [
  | inl e ↦ (zero, omega arith, sym e)
  | inr r ↦ let found = Contains-from_Has xs r in let at = found.2 in let lt = found.1 in (suc found.0, omega arith, at)
]

pub Has-from_Contains : {A : Type 0} {x : A} (xs : List A) → Contains xs x → Has x xs
Has-from_Contains [] (k, lt, at) = absurd (omega (arith, lt))
Has-from_Contains {A} {x} (y ∷ xs) (zero, lt, at) = subst (λ z. Has x (z ∷ xs)) (sym at) here
Has-from_Contains (y ∷ xs) (suc k, lt, at) = later (Has-from_Contains xs (k, omega arith, at))

-- none of these makes a list longer
pub length-filter-le : {A : Type 0} (p : A → Bool) (xs : List A) → length (filter p xs) ≤ length xs
length-filter-le p [] = omega arith
length-filter-le p (x ∷ xs) = let rest = length-filter-le p xs in elim (cases_Bool (p x)) [
  | inl t ↦ rw t (omega (arith, rest))
  | inr f ↦ rw f (omega (arith, rest))
]

pub length-filter_map-le : {A B : Type 0} (h : A → Option B) (xs : List A) → length (filter_map h xs) ≤ length xs
length-filter_map-le h [] = omega arith
length-filter_map-le h (x ∷ xs) = let rest = length-filter_map-le h xs in elim (h x) as (λ o. h x ≡ o → length (filter_map h (x ∷ xs)) ≤ length (x ∷ xs)) [
  | None ↦ λ e. rw e (omega (arith, rest))
  | Some y ↦ λ e. rw e (omega (arith, rest))
] refl

pub length-distinct-le : {A : Type 0} (eq : A → A → Bool) (xs : List A) → length (distinct eq xs) ≤ length xs
length-distinct-le eq [] = omega arith
length-distinct-le eq (x ∷ xs) = omega (arith, length-filter-le (λ y. not (eq x y)) (distinct eq xs), length-distinct-le eq xs)

-- a list that grew by what belongs to the element at k, after those before it
pub more_mapped : {X Y : Type 0} (f : X → Y) (xs : List X) (k : ℕ) (d : X) (base now next : List Y) (y : Y) → k < length xs → now ≡ base ++ map f (take k xs) → next ≡ now ++ y ∷ [] → y ≡ f (get_or xs k d) → next ≡ base ++ map f (take (k + 1) xs)
more_mapped f xs k d base now next y lt was grew is =
    grew ∙ ap (λ zs. zs ++ y ∷ []) was ∙ append_assoc base (map f (take k xs)) (y ∷ [])
    ∙ ap (λ z. base ++ (map f (take k xs) ++ z ∷ [])) is
    ∙ ap (λ zs. base ++ zs) (sym (map_more f xs k d lt))

pub more_kept : {X Y : Type 0} (h : X → Option Y) (xs : List X) (k : ℕ) (d : X) (base now next : List Y) (y : Y) → k < length xs → now ≡ base ++ filter_map h (take k xs) → next ≡ now ++ y ∷ [] → h (get_or xs k d) ≡ Some y → next ≡ base ++ filter_map h (take (k + 1) xs)
more_kept h xs k d base now next y lt was grew is =
    grew ∙ ap (λ zs. zs ++ y ∷ []) was ∙ append_assoc base (filter_map h (take k xs)) (y ∷ [])
    ∙ ap (λ o. base ++ (filter_map h (take k xs) ++ cons_option o [])) (sym is)
    ∙ ap (λ zs. base ++ zs) (sym (ap (filter_map h) (take_more xs k d lt) ∙ filter_map-append h (take k xs) (get_or xs k d ∷ [])))

-- a list of one element has it at each place, and past its end where it is the default
pub one_everywhere : {A : Type 0} (n k : ℕ) (a : A) → get_or (replicate n a) k a ≡ a
one_everywhere n k a = elim (cases_lt k n) [
  | inl lt ↦ get_or-replicate n k a a lt
  | inr ge ↦ let size = length-replicate n a in get_or_past (replicate n a) k a (omega arith)
]
