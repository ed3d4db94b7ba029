-- What follows from the definitions alone.
use Rattle.std.specs.Prelude.{◌≡◌, ◌≢◌, ◌↔◌, ◌⊎◌, ℕ, List, [], ◌∷◌, map, IsSome}
use Rattle.amoebot_state.specs.declared.verdict.Entry.{Entry}
use Rattle.amoebot_state.specs.declared.verdict.Verdict.{Verdict}
use Rattle.amoebot_state.specs.declared.verdict.Verdict.TheVariants as verdict
use Rattle.amoebot_state.specs.Configs.{Config, IsValid, bot_at}
use Rattle.amoebot_state.specs.Zones.{Shown, shown}
use Rattle.amoebot_state.specs.Steps.{Step, Run, HasPatchedWorld, change_of, plain_entry}
use Rattle.serial_model.specs.Forms.{full_entry}
use Rattle.serial_model.specs.Replays.{StepIn, RunIn, IsNoStep, IsFirstNoStep}

-- Of entries that are told in full, the steps and runs are those of the model.
pub record FullIsItself : Type 0 where
  pub step : (f : Shown → Verdict) (old new : Config) (e : Entry)
      → StepIn full_entry f old e new ↔ Step f old e new
  pub run : (f : Shown → Verdict) (old last : Config) (es : List Entry)
      → RunIn full_entry f old es last ↔ Run f old es last

-- a run of entries that are told in a form is steps of them, one after another
pub record RunIsSteps {E : Type 0} (form : Entry → E) : Type 0 where
  pub none : (f : Shown → Verdict) (old last : Config) → RunIn form f old [] last ↔ (last ≡ old)
  pub more : (f : Shown → Verdict) (old last : Config) (told : E) (others : List E)
      → RunIn form f old (told ∷ others) last
      ↔ ((mid : Config) × StepIn form f old told mid × RunIn form f mid others last)

-- at most one place is the first that is no step
abbrev pub FirstNoStepIsUnique : {E : Type 0} → (Entry → E) → Type 0
FirstNoStepIsUnique {E} form =
    (f : Shown → Verdict) (start : Config) (told : List E) (one two : ℕ)
    → IsFirstNoStep form f start told one
    → IsFirstNoStep form f start told two
    → one ≡ two

-- entries that are a run have no such place
abbrev pub RunHasOnlySteps : {E : Type 0} → (Entry → E) → Type 0
RunHasOnlySteps {E} form =
    (f : Shown → Verdict) (start last : Config) (told : List E) (place : ℕ)
    → RunIn form f start told last
    → ¬ IsFirstNoStep form f start told place

-- where each change that f decides leads somewhere, entries from a valid configuration are a run,
-- or have such a place
abbrev pub RunOrFirstNoStep : {E : Type 0} → (Entry → E) → Type 0
RunOrFirstNoStep {E} form =
    (f : Shown → Verdict) (start : Config) (told : List E)
    → HasPatchedWorld f
    → IsValid start
    → ((last : Config) × RunIn form f start told last) ⊎ ((place : ℕ) × IsFirstNoStep form f start told place)

-- Where each change that f decides leads somewhere, take what is told
-- of an amoebot of a valid configuration.
-- It is no step exactly where the verdict on that amoebot
-- is the change of no entry that is told so.
abbrev pub NoStepIsAnotherVerdict : {E : Type 0} → (Entry → E) → (E → ℕ) → Type 0
NoStepIsAnotherVerdict {E} form bot =
    (f : Shown → Verdict) (old : Config) (told : E)
    → HasPatchedWorld f
    → IsValid old
    → IsSome (bot_at old (bot told))
    → IsNoStep form f old told
    ↔ ((e : Entry) → form e ≡ told → f (shown old (bot told)) ≢ verdict.Change (change_of e))

-- a step is determined by its entry without old values:
-- it has one entry and leads to one configuration
abbrev pub PlainStepIsUnique : Type 0
PlainStepIsUnique =
    (f : Shown → Verdict) (old : Config) (e d : Entry) (new other : Config)
    → Step f old e new
    → Step f old d other
    → plain_entry e ≡ plain_entry d
    → (e ≡ d) × (new ≡ other)

-- so entries without old values are those of one run at most
abbrev pub PlainRunIsUnique : Type 0
PlainRunIsUnique =
    (f : Shown → Verdict) (old one two : Config) (es ds : List Entry)
    → Run f old es one
    → Run f old ds two
    → map plain_entry es ≡ map plain_entry ds
    → (es ≡ ds) × (one ≡ two)
