-- The first fault of two lists, one behind the other.
use Rattle.std.proofs.Common.{◌≡◌, List, [], ◌∷◌, ◌++◌, refl}
use Rattle.std.specs.Prelude.{Ok, Err}
use Rattle.text_tokens.specs.declared.refusal.Refusal.{Refusal}
use Rattle.action_check.specs.Told.{first_of}

pub first_behind : (xs ys : List Refusal) → first_of xs ≡ Ok tt → first_of (xs ++ ys) ≡ first_of ys
first_behind [] ys e = refl
first_behind (x ∷ xs) ys e = absurd cc

pub first_before : (xs ys : List Refusal) (r : Refusal) → first_of xs ≡ Err r → first_of (xs ++ ys) ≡ Err r
first_before [] ys r e = absurd cc
first_before (x ∷ xs) ys r e = e
