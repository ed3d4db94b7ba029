-- The lists in which callers keep what they committed, as contracts see them.
use Rattle.std.specs.Prelude.{◌≡◌, ◌≢◌, ℕ, ◌<◌, ◌≤◌, List, length, map, slice_get}
use Rattle.std.specs.declared.option.Option.{Option}
use Rattle.std.specs.declared.option.Option.TheVariants.{Some, None}
use Rattle.amoebot_state.specs.declared.verdict.Entry.{Entry}
use Rattle.amoebot_state.specs.declared.verdict.Verdict.{Verdict}
use Rattle.amoebot_state.specs.Configs.{Config}
use Rattle.amoebot_state.specs.Steps.{Run}
use Rattle.amoebot_state.specs.Zones.{Shown}
use Rattle.claim_core.specs.Limits.{most_turns}
use Rattle.claim_core.specs.Merges.{own_of, IsMerge}

-- an own list: its entries, each with the place that it drew,
-- and the number of entries for which there is room behind them
pub record OwnEntries : Type 0 where
  pub entries : List (ℕ × Entry)
  pub room : ℕ

-- the entries of each list
abbrev pub entry_lists : List OwnEntries → List (List (ℕ × Entry))
entry_lists lists = map (λ (own : OwnEntries). own.entries) lists

-- the lists have a merge, for which there is so much room,
-- and its entries are a run from this world on
pub record HasMerge (f : Shown → Verdict) (world : Config)
    (lists : List (List (ℕ × Entry))) (spare : ℕ) : Type 0 where
  pub journal : List Entry
  pub merge : IsMerge lists journal
  pub last : Config
  pub run : Run f world journal last
  pub room : length journal ≤ spare
  pub few : length journal ≤ most_turns

-- a list begins with this place
abbrev pub BeginsAt : ℕ → List (ℕ × Entry) → Type 0
BeginsAt place own = (e : Entry) × (slice_get own 0 ≡ Some (place, e))

-- the list that begins with this place, if one does
abbrev pub IsListAt : List (List (ℕ × Entry)) → ℕ → Option ℕ → Type 0
IsListAt lists place (Some c) = (c < length lists) × BeginsAt place (own_of lists c)
IsListAt lists place None = (c : ℕ) (p : ℕ × Entry) → slice_get (own_of lists c) 0 ≡ Some p → p.0 ≢ place
