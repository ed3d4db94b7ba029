-- Whether entries, told in a form, are a run, and if not, at which place it ends.
-- Runs are the paper's; entries, their forms and their places are this project's profile.
use Rattle.std.specs.Prelude.{◌≡◌, ◌<◌, ◌^◌, ℕ, List, length, map, slice_get, take}
use Rattle.std.specs.declared.option.Option.TheVariants.{Some}
use Rattle.amoebot_state.specs.declared.verdict.Entry.{Entry}
use Rattle.amoebot_state.specs.declared.verdict.Verdict.{Verdict}
use Rattle.amoebot_state.specs.Configs.{Config}
use Rattle.amoebot_state.specs.Zones.{Shown}
use Rattle.amoebot_state.specs.Steps.{Step, Run}
use Rattle.serial_model.specs.Forms.{InForm}

-- entries so few that their number, and with it each of their places, is a number of 32 bits
abbrev pub AreCountable : {E : Type 0} → List E → Type 0
AreCountable entries = length entries < 2 ^ 32

-- a step of an entry that is told in a form
abbrev pub StepIn : {E : Type 0} → (Entry → E) → (Shown → Verdict) → Config → E → Config → Type 0
StepIn form f old told new = InForm form (λ (e : Entry). Step f old e new) told

-- a run of entries that are told in a form
abbrev pub RunIn : {E : Type 0} → (Entry → E) → (Shown → Verdict) → Config → List E → Config → Type 0
RunIn form f old told last = InForm (map form) (λ (es : List Entry). Run f old es last) told

-- no step of an entry that is told so leads anywhere from the configuration
abbrev pub IsNoStep : {E : Type 0} → (Entry → E) → (Shown → Verdict) → Config → E → Type 0
IsNoStep form f old told = (new : Config) → ¬ StepIn form f old told new

-- The first place that is no step.
-- One is told there, those before it are of a run to some world,
-- and from that world there is no step of it.
pub record IsFirstNoStep {E : Type 0} (form : Entry → E)
    (f : Shown → Verdict) (start : Config) (told : List E)
    (place : ℕ) : Type 0 where
  pub entry : E
  pub there : slice_get told place ≡ Some entry
  pub world : Config
  pub before : RunIn form f start (take place told) world
  pub none : IsNoStep form f world entry
