-- The terms of a sum, one after the other.
use Rattle.std.proofs.Common.{◌≡◌, Bool, refl, ap, arith}
use Rattle.std.specs.Prelude.{Result, Ok, Err, ℤ, ◌+ℤ◌}
use Rattle.std.proofs.lemmas.Int.{ints}
use Rattle.amoebot_state.specs.declared.verdict.Failure.{Failure}
use Rattle.model_ops.specs.Operations.{and_then}
use Rattle.model_ops.specs.Sights.{Sight}
use Rattle.action_tree.specs.Trees.{Term, Sum, term_then}
use Rattle.action_meaning.specs.Names.{Names}
use Rattle.action_meaning.specs.Values.{signed, sum_value, term_value}

-- with the terms before
abbrev pub and_so_much : ℤ → Result ℤ Failure → Result ℤ Failure
and_so_much total r = and_then r (λ y. Ok (total +ℤ y))

onwards : (total x : ℤ) (r : Result ℤ Failure) → and_so_much total (and_then r (λ y. Ok (x +ℤ y))) ≡ and_so_much (total +ℤ x) r
onwards total x (Ok y) = let e : total +ℤ (x +ℤ y) ≡ (total +ℤ x) +ℤ y = omega (arith, ints) in ap Ok e
onwards total x (Err f) = refl

pub sum_goes_on : (s : Sight) (xs : Names) (minus : Bool) (t : Term) (more : Sum) (x total : ℤ) → term_value s xs t ≡ Ok x → and_so_much total (sum_value s xs (term_then minus t more)) ≡ and_so_much (total +ℤ signed minus x) (sum_value s xs more)
sum_goes_on s xs minus t more x total e = rw e (onwards total (signed minus x) (sum_value s xs more))

pub sum_fails : (s : Sight) (xs : Names) (minus : Bool) (t : Term) (more : Sum) (f : Failure) (total : ℤ) → term_value s xs t ≡ Err f → and_so_much total (sum_value s xs (term_then minus t more)) ≡ Err f
sum_fails s xs minus t more f total e = rw e refl
