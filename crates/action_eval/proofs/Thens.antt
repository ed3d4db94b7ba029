-- What follows an answer, once it is known.
use Rattle.std.proofs.Common.{◌≡◌, refl}
use Rattle.std.specs.Prelude.{Result, Ok, Err}
use Rattle.amoebot_state.specs.declared.verdict.Failure.{Failure}
use Rattle.model_ops.specs.Operations.{and_then}

pub then_fails : {A B : Type 0} (r : Result A Failure) (next : A → Result B Failure) (f : Failure) → r ≡ Err f → and_then r next ≡ Err f
then_fails r next f e = rw e refl

pub then_goes : {A B : Type 0} (r : Result A Failure) (next : A → Result B Failure) (x : A) → r ≡ Ok x → and_then r next ≡ next x
then_goes r next x e = rw e refl
