-- Chains of conditions that answer alike.
use Rattle.std.proofs.Common.{◌≡◌, ℕ, Bool, true, false, ap, ◌∙◌, refl, Option, Some, None}
use Rattle.std.specs.Result.{result_err}
use Rattle.std.specs.declared.result.Result.{Result}
use Rattle.std.specs.declared.result.Result.TheVariants.{Ok, Err}
use Rattle.amoebot_state.specs.declared.verdict.Failure.{Failure}
use Rattle.model_ops.specs.Operations.{need, with_peer, and_then}

-- the same answers
pub need_same : {A : Type 0} {h k : Bool} (f : Failure) (r s : Result A Failure) → h ≡ k → (k ≡ true → r ≡ s) → need h f r ≡ need k f s
need_same {A} {h} {k} f r s e same = ap (λ t. need t f r) e ∙ by k same
  where
    by : (k : Bool) → (k ≡ true → r ≡ s) → need k f r ≡ need k f s
    by true same = same refl
    by false same = refl

pub peer_same : {A : Type 0} {o q : Option ℕ} (f g : ℕ → Result A Failure) → o ≡ q → ((n : ℕ) → q ≡ Some n → f n ≡ g n) → with_peer o f ≡ with_peer q g
peer_same {A} {o} {q} f g e same = ap (λ t. with_peer t f) e ∙ by q same
  where
    by : (q : Option ℕ) → ((n : ℕ) → q ≡ Some n → f n ≡ g n) → with_peer q f ≡ with_peer q g
    by None same = refl
    by (Some n) same = same n refl

pub then_same : {A B : Type 0} {r s : Result A Failure} (f g : A → Result B Failure) → r ≡ s → ((x : A) → s ≡ Ok x → f x ≡ g x) → and_then r f ≡ and_then s g
then_same {A} {B} {r} {s} f g e same = ap (λ t. and_then t f) e ∙ by s same
  where
    by : (s : Result A Failure) → ((x : A) → s ≡ Ok x → f x ≡ g x) → and_then s f ≡ and_then s g
    by (Ok x) same = same x refl
    by (Err e) same = refl

-- the same failures
pub need_alike : {A B : Type 0} {h k : Bool} (f : Failure) (r : Result A Failure) (s : Result B Failure) → h ≡ k → (k ≡ true → result_err r ≡ result_err s) → result_err (need h f r) ≡ result_err (need k f s)
need_alike {A} {B} {h} {k} f r s e same = ap (λ t. result_err (need t f r)) e ∙ by k same
  where
    by : (k : Bool) → (k ≡ true → result_err r ≡ result_err s) → result_err (need k f r) ≡ result_err (need k f s)
    by true same = same refl
    by false same = refl

pub peer_alike : {A B : Type 0} {o q : Option ℕ} (f : ℕ → Result A Failure) (g : ℕ → Result B Failure) → o ≡ q → ((n : ℕ) → q ≡ Some n → result_err (f n) ≡ result_err (g n)) → result_err (with_peer o f) ≡ result_err (with_peer q g)
peer_alike {A} {B} {o} {q} f g e same = ap (λ t. result_err (with_peer t f)) e ∙ by q same
  where
    by : (q : Option ℕ) → ((n : ℕ) → q ≡ Some n → result_err (f n) ≡ result_err (g n)) → result_err (with_peer q f) ≡ result_err (with_peer q g)
    by None same = refl
    by (Some n) same = same n refl

pub then_alike : {A B C : Type 0} {r s : Result A Failure} (f : A → Result B Failure) (g : A → Result C Failure) → r ≡ s → ((x : A) → s ≡ Ok x → result_err (f x) ≡ result_err (g x)) → result_err (and_then r f) ≡ result_err (and_then s g)
then_alike {A} {B} {C} {r} {s} f g e same = ap (λ t. result_err (and_then t f)) e ∙ by s same
  where
    by : (s : Result A Failure) → ((x : A) → s ≡ Ok x → result_err (f x) ≡ result_err (g x)) → result_err (and_then s f) ≡ result_err (and_then s g)
    by (Ok x) same = same x refl
    by (Err e) same = refl

-- what fails alike succeeds alike
pub ok_alike : {A B : Type 0} (r : Result A Failure) (s : Result B Failure) (y : B) → result_err r ≡ result_err s → s ≡ Ok y → (x : A) × (r ≡ Ok x)
ok_alike (Ok x) s y e is = (x, refl)
ok_alike (Err f) (Ok z) y e is = absurd (cc)
ok_alike (Err f) (Err g) y e is = absurd (cc)

-- of two parts, both alike
pub both_alike : {A B : Type 0} (r s : Result A Failure) (f g : A → Result B Failure) → result_err r ≡ result_err s → ((x y : A) → r ≡ Ok x → s ≡ Ok y → result_err (f x) ≡ result_err (g y)) → result_err (and_then r f) ≡ result_err (and_then s g)
both_alike (Ok x) (Ok y) f g e same = same x y refl refl
both_alike (Ok x) (Err b) f g e same = absurd (cc)
both_alike (Err a) (Ok y) f g e same = absurd (cc)
both_alike (Err a) (Err b) f g e same = e
