-- Values that may be there or not.
use Rattle.std.proofs.Common.{◌≡◌, ◌<◌, ℕ, zero, suc, false, List, [], ◌∷◌, length, map, ap, sym, refl, subst, Option, Some, None, Result, Ok, Err, arith}
use Rattle.std.specs.Prelude.{IsSome, is_some, slice_index_or}
use Rattle.std.specs.Option.{option_map}
use Rattle.std.specs.Result.{IfErr, IsErrAnd}
use Rattle.std.proofs.lemmas.Bool.{false≢true}

pub there_is : {A : Type 0} (o : Option A) → IsSome o → (x : A) × (o ≡ Some x)
there_is None t = absurd (false≢true t)
there_is (Some x) t = (x, refl)

pub none_if : {A : Type 0} (o : Option A) → is_some o ≡ false → o ≡ None
none_if None e = refl
none_if (Some x) e = absurd (false≢true (sym e))

pub not_none : {A : Type 0} (o : Option A) → o ≡ None → IsSome o → ⊥
not_none o e some = let f = ap is_some e in absurd (cc)

pub is_some-option_map : {A B : Type 0} (f : A → B) (o : Option A) → is_some (option_map f o) ≡ is_some o
is_some-option_map f None = refl
is_some-option_map f (Some x) = refl

-- a list without gaps has an element at each place
pub all_there : {A : Type 0} (xs : List A) (k : ℕ) → k < length (map Some xs) → IsSome (slice_index_or (map Some xs) k None)
all_there [] k inside = absurd (omega arith)
all_there (x ∷ xs) zero inside = refl
all_there (x ∷ xs) (suc k) inside = all_there xs k (omega arith)

-- what holds of a fault holds of the answer that carries it
pub err_told : {A E : Type 0} (r : Result A E) (P : E → Type 0) (x : E) → IsErrAnd r (λ e. e ≡ x) → P x → IfErr r P
err_told (Ok a) P x is holds = tt
err_told (Err e) P x is holds = subst P (sym is) holds
