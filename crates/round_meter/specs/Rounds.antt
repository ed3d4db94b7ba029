-- Asynchronous rounds of a run, in which the field's papers state running times.
-- That a round ends once each amoebot has acted or was not enabled is theirs; places,
-- and what is counted at the end of a journal, are this project's profile.
use Rattle.std.specs.Prelude.{◌≡◌, ℕ, suc, ◌<◌, ◌≤◌, List, length, slice_get, slice_index_or, Bool, true, false, not, Decides}
use Rattle.std.specs.List.{count_by}
use Rattle.std.specs.declared.option.Option.TheVariants.{Some}
use Rattle.amoebot_state.specs.declared.verdict.Entry.{Entry}
use Rattle.amoebot_state.specs.declared.verdict.Verdict.{Verdict}
use Rattle.amoebot_state.specs.declared.verdict.Verdict.TheVariants as verdict
use Rattle.amoebot_state.specs.Configs.{Config}
use Rattle.amoebot_state.specs.Zones.{Shown, shown}
use Rattle.amoebot_state.specs.Steps.{IsWorldAt}

-- the verdict is a change
abbrev pub is_change : Verdict → Bool
is_change verdict.Idle = false
is_change (verdict.Failed why) = false
is_change (verdict.Change change) = true

-- an amoebot is enabled in a configuration: the verdict on it is a change
abbrev pub enabled_in : (Shown → Verdict) → Config → ℕ → Bool
enabled_in f c b = is_change (f (shown c b))

-- it is not enabled in the world at a place
abbrev pub RestsAt : (Shown → Verdict) → Config → List Entry → ℕ → ℕ → Type 0
RestsAt f first entries b place =
    (world : Config) × IsWorldAt f first entries place world × (enabled_in f world b ≡ false)

-- from a start, an amoebot is settled by a place: it is not enabled at some place from the start
-- to that one, or an entry from the start on and before that place is its
pub data IsSettled (f : Shown → Verdict) (first : Config)
    (entries : List Entry) (b start k : ℕ) : Type 0 where
  rested : (place : ℕ) → start ≤ place → place ≤ k
      → RestsAt f first entries b place → IsSettled f first entries b start k
  acted : (place : ℕ) (e : Entry)
      → start ≤ place
      → place < k
      → slice_get entries place ≡ Some e
      → e.bot ≡ b
      → IsSettled f first entries b start k

-- Each amoebot is.
-- The ids are those below the number of amoebots: worlds have no gaps,
-- so each of them is an amoebot's.
abbrev pub AllSettled : (Shown → Verdict) → Config → List Entry → ℕ → ℕ → Type 0
AllSettled f first entries start k = (b : ℕ) → b < length first.bots → IsSettled f first entries b start k

-- the round from a start ends at a place of the journal:
-- the least one above the start by which each amoebot is settled
pub record EndsRound (f : Shown → Verdict) (first : Config)
    (entries : List Entry) (start k : ℕ) : Type 0 where
  pub above : start < k
  pub within : k ≤ length entries
  pub settled : AllSettled f first entries start k
  pub least : (j : ℕ) → start < j → j < k → ¬ AllSettled f first entries start j

-- so many rounds, the first from 0 and each later one from the end of the one before, end in turn,
-- the last of them at a place
pub data RoundsTo (f : Shown → Verdict) (first : Config) (entries : List Entry) : ℕ → ℕ → Type 0 where
  no_round : RoundsTo f first entries 0 0
  one_more : (n start k : ℕ)
      → RoundsTo f first entries n start
      → EndsRound f first entries start k
      → RoundsTo f first entries (suc n) k

-- so many amoebots are not settled by a place: there is an answer for each id below the number
-- of amoebots, and so many of these are no
pub record WaitFor (f : Shown → Verdict) (first : Config)
    (entries : List Entry) (start k waiting : ℕ) : Type 0 where
  pub settled : List Bool
  pub each : length settled ≡ length first.bots
  pub told : (b : ℕ)
      → b < length first.bots
      → Decides (slice_index_or settled b false) (IsSettled f first entries b start k)
  pub count : waiting ≡ count_by not settled

-- the rounds that end within the journal, and the amoebots that are not settled at its end
-- in the last round that was started
pub record IsRounded (f : Shown → Verdict) (first : Config)
    (entries : List Entry) (rounds waiting : ℕ) : Type 0 where
  pub start : ℕ
  pub ended : RoundsTo f first entries rounds start
  pub unended : (k : ℕ) → ¬ EndsRound f first entries start k
  pub waits : WaitFor f first entries start (length entries) waiting
