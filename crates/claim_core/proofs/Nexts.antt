-- What the next step of a caller is, by its phase.
use Rattle.std.proofs.Common.{◌≡◌, ℕ, List, [], ◌∷◌, refl}
use Rattle.amoebot_state.specs.Pairs.{Pairs}
use Rattle.claim_core.specs.declared.marks.Mark.{Mark}
use Rattle.claim_core.specs.Machine.{Setup, freeing_caller}

module _ (g : Setup) where
  -- the marks of a caller that goes on to free its cells
  pub frees-marks : (t : ℕ) (held : Pairs) (marks : List Mark) → (freeing_caller g t held marks).marks ≡ marks
  frees-marks t [] marks = refl
  frees-marks t (p ∷ held) marks = refl

  pub frees-held : (t : ℕ) (held : Pairs) (marks : List Mark) → (freeing_caller g t held marks).held ≡ held
  frees-held t [] marks = refl
  frees-held t (p ∷ held) marks = refl
