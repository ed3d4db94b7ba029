-- What follows from the definitions alone.
-- Old values that are those found determine what stands before a step.
use Rattle.std.specs.Prelude.{◌≡◌, ◌⊎◌, ◌≤◌, ℕ, List, length, take}
use Rattle.std.specs.declared.result.Result.{Result}
use Rattle.std.specs.declared.result.Result.TheVariants.{Ok}
use Rattle.amoebot_state.specs.declared.verdict.Entry.{Entry}
use Rattle.amoebot_state.specs.declared.verdict.Verdict.{Verdict}
use Rattle.amoebot_state.specs.Configs.{Config, IsValid}
use Rattle.amoebot_state.specs.Zones.{Shown}
use Rattle.amoebot_state.specs.Steps.{Run, OldValuesAreFound}
use Rattle.rewind_log.specs.Rewinds.{IsStepBack, IsNoStepBack, IsBack, IsLastNoStep}
use Rattle.rewind_log.specs.Unwinding.{HasSameFrame, IsUnwound}

-- at most one valid configuration has a step of an entry to a configuration
abbrev pub StepBackIsUnique : Type 0
StepBackIsUnique =
    (f : Shown → Verdict) (new : Config) (e : Entry) (one two : Config)
    → OldValuesAreFound f
    → IsStepBack f new e one
    → IsStepBack f new e two
    → one ≡ two

-- one has, or none
abbrev pub StepBackOrNone : Type 0
StepBackOrNone =
    (f : Shown → Verdict) (new : Config) (e : Entry)
    → OldValuesAreFound f
    → IsValid new
    → ((old : Config) × IsStepBack f new e old) ⊎ IsNoStepBack f new e

-- at most one world is the one at a place
abbrev pub BackIsUnique : Type 0
BackIsUnique =
    (f : Shown → Verdict) (last : Config) (entries : List Entry) (place : ℕ) (one two : Config)
    → OldValuesAreFound f
    → IsBack f last entries place one
    → IsBack f last entries place two
    → one ≡ two

-- at most one place is the greatest from which there is no step
abbrev pub LastNoStepIsUnique : Type 0
LastNoStepIsUnique =
    (f : Shown → Verdict) (last : Config) (entries : List Entry) (place one two : ℕ)
    → OldValuesAreFound f
    → IsLastNoStep f last entries place one
    → IsLastNoStep f last entries place two
    → one ≡ two

-- where there is a world at a place, there is no such place
abbrev pub BackHasNoLastNoStep : Type 0
BackHasNoLastNoStep =
    (f : Shown → Verdict) (last : Config) (entries : List Entry) (place k : ℕ) (world : Config)
    → OldValuesAreFound f
    → IsBack f last entries place world
    → ¬ IsLastNoStep f last entries place k

-- from a valid world there is one or the other
abbrev pub BackOrLastNoStep : Type 0
BackOrLastNoStep =
    (f : Shown → Verdict) (last : Config) (entries : List Entry) (place : ℕ)
    → OldValuesAreFound f
    → IsValid last
    → place ≤ length entries
    → ((world : Config) × IsBack f last entries place world) ⊎ ((k : ℕ) × IsLastNoStep f last entries place k)

-- entries are a run from a valid world to the last one, and so many of them lead to this world
pub record LeadThere (f : Shown → Verdict) (first last : Config)
    (entries : List Entry) (place : ℕ) (world : Config) : Type 0 where
  pub valid : IsValid first
  pub run : Run f first entries last
  pub within : place ≤ length entries
  pub there : Run f first (take place entries) world

-- Rewinding is the inverse of the run.
-- Where entries are a run, the world that so many of them lead to is the one at that place,
-- seen from the last one.
abbrev pub RunsLeadBack : Type 0
RunsLeadBack =
    (f : Shown → Verdict) (first last world : Config) (entries : List Entry) (place : ℕ)
    → LeadThere f first last entries place world
    → IsBack f last entries place world

-- Where there is a world at place 0, the entries are a run from it.
abbrev pub BacksAreRuns : Type 0
BacksAreRuns =
    (f : Shown → Verdict) (first last : Config) (entries : List Entry)
    → IsBack f last entries 0 first
    → IsValid first × Run f first entries last

-- to go back to a place comes to at most one thing
abbrev pub UnwoundIsUnique : Type 0
UnwoundIsUnique =
    (f : Shown → Verdict) (start last : Config) (entries : List Entry) (place : ℕ) (one two : Result Config ℕ)
    → OldValuesAreFound f
    → IsUnwound f start last entries place one
    → IsUnwound f start last entries place two
    → one ≡ two

-- and from a valid world to one
abbrev pub UnwoundIsSome : Type 0
UnwoundIsSome =
    (f : Shown → Verdict) (start last : Config) (entries : List Entry) (place : ℕ)
    → OldValuesAreFound f
    → IsValid last
    → place ≤ length entries
    → (result : Result Config ℕ) × IsUnwound f start last entries place result

-- a run changes neither the area nor the walls nor the number of amoebots
abbrev pub RunsKeepFrame : Type 0
RunsKeepFrame =
    (f : Shown → Verdict) (first last : Config) (entries : List Entry)
    → Run f first entries last → HasSameFrame first last

-- so for the first and the last world of a run, to go back to a place comes
-- to the world that so many entries lead to
abbrev pub UnwindingUndoesRuns : Type 0
UnwindingUndoesRuns =
    (f : Shown → Verdict) (first last world : Config) (entries : List Entry) (place : ℕ)
    → LeadThere f first last entries place world
    → IsUnwound f first last entries place (Ok world)
