-- Fronts of lists.
use Rattle.std.proofs.Common.{◌≡◌, ◌<◌, ◌≤◌, ℕ, zero, suc, List, [], ◌∷◌, ◌++◌, length, map, take, drop, ap, sym, ◌∙◌, refl, subst, arith, append_assoc, Option, Some, None}
use Rattle.std.specs.Prelude.{slice_get}
use Rattle.std.specs.List.{filter_map}
use Rattle.std.proofs.lemmas.List.{take_at, take-append-drop, map-append}
use Rattle.std.proofs.lemmas.Option.{none-some, same_Some}
use Rattle.amoebot_state.specs.Known.{IsFront}
use Rattle.amoebot_state.proofs.Members.{Has, here, later}

pub front_of_append : {A : Type 0} (xs zs : List A) → IsFront xs (xs ++ zs)
front_of_append xs zs = sym (take_at xs zs (length xs) refl)

pub front_rest : {A : Type 0} (xs ys : List A) → IsFront xs ys → ys ≡ xs ++ drop (length xs) ys
front_rest xs ys front = sym (take-append-drop (length xs) ys) ∙ ap (λ zs. zs ++ drop (length xs) ys) (sym front)

pub front_take : {A : Type 0} (m : ℕ) (ys : List A) → IsFront (take m ys) ys
front_take m ys = subst (IsFront (take m ys)) (take-append-drop m ys) (front_of_append (take m ys) (drop m ys))

pub front_takes : {A : Type 0} (m n : ℕ) (ys : List A) → m ≤ n → IsFront (take m ys) (take n ys)
front_takes zero n ys le = refl
front_takes (suc m) zero ys le = absurd (omega (arith, le))
front_takes (suc m) (suc n) [] le = refl
front_takes (suc m) (suc n) (y ∷ ys) le = ap (λ zs. y ∷ zs) (front_takes m n ys (omega (arith, le)))

-- what turns a longer list into a longer one keeps fronts
pub front_kept : {A B : Type 0} (h : List A → List B) → ((xs zs : List A) → (ws : List B) × (h (xs ++ zs) ≡ h xs ++ ws)) → (xs ys : List A) → IsFront xs ys → IsFront (h xs) (h ys)
front_kept h longer xs ys front =
    let (ws, e) = longer xs (drop (length xs) ys) in
    subst (IsFront (h xs)) (sym e ∙ ap h (sym (front_rest xs ys front))) (front_of_append (h xs) ws)

pub front_map : {A B : Type 0} (f : A → B) (xs ys : List A) → IsFront xs ys → IsFront (map f xs) (map f ys)
front_map f = front_kept (map f) (λ xs zs. (map f zs, map-append f xs zs))

pub front_behind : {A : Type 0} (before xs ys : List A) → IsFront xs ys → IsFront (before ++ xs) (before ++ ys)
front_behind before = front_kept (λ xs. before ++ xs) (λ xs zs. (zs, sym (append_assoc before xs zs)))

pub front_left : {A : Type 0} (xs ys zs : List A) → IsFront (xs ++ ys) zs → IsFront xs zs
front_left xs ys zs front =
    let rest = drop (length (xs ++ ys)) zs in
    subst (IsFront xs) (sym (append_assoc xs ys rest) ∙ sym (front_rest (xs ++ ys) zs front)) (front_of_append xs (ys ++ rest))

-- the element at the number of those before it
pub slice_get_behind : {A : Type 0} (xs : List A) (y : A) (ys : List A) → slice_get (xs ++ y ∷ ys) (length xs) ≡ Some y
slice_get_behind [] y ys = refl
slice_get_behind (x ∷ xs) y ys = slice_get_behind xs y ys

pub front_next : {A : Type 0} (xs : List A) (y : A) (ys zs : List A) → IsFront (xs ++ y ∷ ys) zs → slice_get zs (length xs) ≡ Some y
front_next xs y ys zs front =
    let rest = drop (length (xs ++ y ∷ ys)) zs in
    ap (λ us. slice_get us (length xs)) (front_rest (xs ++ y ∷ ys) zs front ∙ append_assoc xs (y ∷ ys) rest) ∙ slice_get_behind xs y (ys ++ rest)

pub front_push : {A : Type 0} (xs ys : List A) (y : A) → IsFront xs ys → slice_get ys (length xs) ≡ Some y → IsFront (xs ++ y ∷ []) ys
front_push [] [] y front at = absurd (none-some y at)
front_push [] (z ∷ ys) y front at = let same : z ≡ y = same_Some z y at in ap (λ x. x ∷ []) (sym same)
front_push (x ∷ xs) [] y front at = absurd (none-some y at)
front_push {A} (x ∷ xs) (z ∷ ys) y front at =
    let (first, rest) = split x z xs (take (length xs) ys) front in
    ap (λ u. u ∷ (xs ++ y ∷ [])) first ∙ ap (λ us. z ∷ us) (front_push xs ys y rest at)
  where
    split : (x z : A) (xs zs : List A) → x ∷ xs ≡ z ∷ zs → (x ≡ z) × (xs ≡ zs)
    split x z xs zs e = (cc, cc)

pub Has-from_slice_get : {A : Type 0} (xs : List A) (k : ℕ) (x : A) → slice_get xs k ≡ Some x → Has x xs
Has-from_slice_get [] k x e = absurd (none-some x e)
Has-from_slice_get {A} (y ∷ xs) zero x e = let same : y ≡ x = cc in subst (λ z. Has x (z ∷ xs)) (sym same) here
Has-from_slice_get (y ∷ xs) (suc k) x e = later (Has-from_slice_get xs k x e)

pub slice_get_left : {A : Type 0} (xs ys : List A) (k : ℕ) → k < length xs → slice_get (xs ++ ys) k ≡ slice_get xs k
slice_get_left [] ys k lt = absurd (omega (arith, lt))
slice_get_left (x ∷ xs) ys zero lt = refl
slice_get_left (x ∷ xs) ys (suc k) lt = slice_get_left xs ys k (omega (arith, lt))

-- where each element gives something, a front of what they give is what a front of them gives
pub take-filter_map : {A B : Type 0} (h : A → Option B) (n : ℕ) (xs : List A) → ((x : A) → Has x xs → (y : B) × (h x ≡ Some y)) → take n (filter_map h xs) ≡ filter_map h (take n xs)
take-filter_map h zero xs all = refl
take-filter_map h (suc n) [] all = refl
take-filter_map h (suc n) (x ∷ xs) all =
    let (y, e) = all x here in
    rw e (ap (λ ys. y ∷ ys) (take-filter_map h n xs (λ z has. all z (later has))))

pub map-filter_map : {A B : Type 0} (g : B → A) (h : A → Option B) (xs : List A) → ((x : A) → Has x xs → (y : B) × (h x ≡ Some y) × (g y ≡ x)) → map g (filter_map h xs) ≡ xs
map-filter_map g h [] all = refl
map-filter_map g h (x ∷ xs) all =
    let (y, e, back) = all x here in
    rw e (ap (λ z. z ∷ map g (filter_map h xs)) back ∙ ap (λ zs. x ∷ zs) (map-filter_map g h xs (λ z has. all z (later has))))

pub filter_map-none : {A B : Type 0} (h : A → Option B) (xs : List A) → ((x : A) → Has x xs → h x ≡ None) → filter_map h xs ≡ []
filter_map-none h [] none = refl
filter_map-none h (x ∷ xs) none = rw (none x here) (filter_map-none h xs (λ y has. none y (later has)))
