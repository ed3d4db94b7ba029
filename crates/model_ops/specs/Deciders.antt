-- Deciders whose changes are made by operations (this project's profile).
use Rattle.std.specs.Prelude.{◌≡◌, true}
use Rattle.std.specs.declared.result.Result.TheVariants.{Ok}
use Rattle.amoebot_state.specs.declared.verdict.Change.{Change}
use Rattle.amoebot_state.specs.declared.verdict.Verdict.{Verdict}
use Rattle.amoebot_state.specs.declared.verdict.Verdict.TheVariants as verdict
use Rattle.amoebot_state.specs.Configs.{Config}
use Rattle.amoebot_state.specs.Pairs.{Triples}
use Rattle.amoebot_state.specs.Patches.{diff}
use Rattle.amoebot_state.specs.Zones.{Shown, IsShown, shown_alone}
use Rattle.model_ops.specs.Reaches.{Acts, perform}

-- acts that lead somewhere from the configuration that has what is shown and no other amoebot;
-- the patch is their difference
pub record ActsFor (s : Shown) (patch : Triples) : Type 0 where
  pub acts : Acts
  pub reached : Config
  pub performed : perform (shown_alone s) s.bot acts ≡ Ok reached
  pub is : patch ≡ diff (shown_alone s) reached

-- each change that f decides is made by acts
abbrev pub DecidesByActs : (Shown → Verdict) → Type 0
DecidesByActs f =
    (s : Shown) (change : Change) → IsShown s → f s ≡ verdict.Change change → ActsFor s change.patch

-- and by acts with the guard on
abbrev pub DecidesGuarded : (Shown → Verdict) → Type 0
DecidesGuarded f =
    (s : Shown) (change : Change)
    → IsShown s
    → f s ≡ verdict.Change change
    → (by : ActsFor s change.patch) × (by.acts.guard ≡ true)
