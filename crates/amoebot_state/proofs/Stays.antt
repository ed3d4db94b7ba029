-- What more entries at the end of a journal leave as it was.
use Rattle.std.proofs.Common.{◌≡◌, ℕ, zero, suc, List, [], ◌∷◌, ◌++◌, length, Some, ◌⊎◌, inl, inr, ap, sym, subst, refl, arith, length-append}
use Rattle.std.specs.Prelude.{slice_get}
use Rattle.std.proofs.lemmas.List.{take-append-le}
use Rattle.std.proofs.Math.Seq.{take-length}
use Rattle.amoebot_state.specs.declared.verdict.Entry.{Entry}
use Rattle.amoebot_state.specs.declared.verdict.Verdict.{Verdict}
use Rattle.amoebot_state.specs.Configs.{Config}
use Rattle.amoebot_state.specs.Zones.{Shown}
use Rattle.amoebot_state.specs.Steps.{Run, IsWorldAt}

-- what is there was there before, or is the new one
pub slice_get-pushed : {X : Type 0} (xs : List X) (x y : X) (k : ℕ) → slice_get (xs ++ x ∷ []) k ≡ Some y → (slice_get xs k ≡ Some y) ⊎ ((k ≡ length xs) × (x ≡ y))
slice_get-pushed [] x y zero e = inr (refl, cc)
slice_get-pushed [] x y (suc k) e = absurd (cc)
slice_get-pushed (z ∷ xs) x y zero e = inl e
slice_get-pushed (z ∷ xs) x y (suc k) e = elim (slice_get-pushed xs x y k e) [ inl was ↦ inl was | inr new ↦ inr (ap suc new.0, new.1) ]

-- the last world
pub world_last : (f : Shown → Verdict) (first world : Config) (es : List Entry) → Run f first es world → IsWorldAt f first es (length es) world
world_last f first world es run = record { within = omega arith; reached = subst (λ xs. Run f first xs world) (sym (take-length es)) run }

-- the worlds
pub IsWorldAt-append : (f : Shown → Verdict) (first world : Config) (es more : List Entry) (place : ℕ) → IsWorldAt f first es place world → IsWorldAt f first (es ++ more) place world
IsWorldAt-append f first world es more place at = record {
  within = omega (arith, at.within, length-append es more);
  reached = subst (λ xs. Run f first xs world) (sym (take-append-le place es more at.within)) at.reached;
}
