-- What stands before entries, seen from what they lead to.
-- Steps and runs are the paper's; to go back by old values is this project's profile.
use Rattle.std.specs.Prelude.{◌≡◌, ◌≤◌, ◌+◌, ℕ, List, drop, length, slice_get}
use Rattle.std.specs.declared.option.Option.TheVariants.{Some}
use Rattle.amoebot_state.specs.declared.verdict.Entry.{Entry}
use Rattle.amoebot_state.specs.declared.verdict.Verdict.{Verdict}
use Rattle.amoebot_state.specs.Configs.{Config, IsValid}
use Rattle.amoebot_state.specs.Zones.{Shown}
use Rattle.amoebot_state.specs.Steps.{Step, Run}

-- a step of an entry leads from one configuration, which is valid, to another
pub record IsStepBack (f : Shown → Verdict) (new : Config) (e : Entry) (old : Config) : Type 0 where
  pub valid : IsValid old
  pub step : Step f old e new

-- no valid configuration has a step of this entry to this one
abbrev pub IsNoStepBack : (Shown → Verdict) → Config → Entry → Type 0
IsNoStepBack f new e = (old : Config) → IsValid old → ¬ Step f old e new

-- the world at a place of entries, seen from the last one: it is valid,
-- and the entries from the place on are a run from it to the last one
pub record IsBack (f : Shown → Verdict) (last : Config)
    (entries : List Entry) (place : ℕ) (world : Config) : Type 0 where
  pub within : place ≤ length entries
  pub valid : IsValid world
  pub run : Run f world (drop place entries) last

-- the greatest place, not below one, from which there is no step: an entry stands there,
-- the world behind it is the one that is seen from the last one,
-- and no valid world has a step of the entry to that world
pub record IsLastNoStep (f : Shown → Verdict) (last : Config)
    (entries : List Entry) (place k : ℕ) : Type 0 where
  pub above : place ≤ k
  pub entry : Entry
  pub there : slice_get entries k ≡ Some entry
  pub world : Config
  pub behind : IsBack f last entries (k + 1) world
  pub none : IsNoStepBack f world entry
