-- What holds of a part put beside the next one, where that was made.
use Rattle.std.proofs.Common.{◌≡◌, Result, Ok, Err, sym, subst}
use Rattle.std.specs.Prelude.{IfOk}

pub put_beside : {A B E : Type 0} (P : A × B → Type 0) (before : A) (next : Result B E) (result : Result (A × B) E) → IfOk result (λ r. (r.0 ≡ before) × (next ≡ Ok r.1)) → ((b : B) → next ≡ Ok b → P (before, b)) → IfOk result P
put_beside P before next (Ok r) is fine = subst (λ a. P (a, r.1)) (sym is.0) (fine r.1 is.1)
put_beside P before next (Err e) is fine = tt
