-- The callers' lists, the journal and the marks, as contracts see them.
use Rattle.std.specs.Prelude.{ℕ, ◌<◌, ◌≤◌, ◌*◌, ◌%◌, List, [], length, replicate, slice_index, slice_index_or}
use Rattle.std.specs.List.{All}
use Rattle.amoebot_state.specs.Configs.{Config}
use Rattle.amoebot_state.specs.declared.verdict.Entry.{Entry}
use Rattle.claim_core.specs.declared.marks.Mark.{Mark}
use Rattle.claim_core.specs.Limits.{most_callers, most_turns, most_ids}

-- the turns of each caller, and the ids of each caller's list
pub record CallerLists : Type 0 where
  pub turns : ℕ
  pub ids : List (List ℕ)

-- a caller's list, which has at least one id and at most 4,096
pub record IsList (ids : List ℕ) : Type 0 where
  pub some : 0 < length ids
  pub few : length ids ≤ most_ids

-- at most 16 callers, and at most 65,536 turns in all
pub record AreFew (callers turns : ℕ) : Type 0 where
  pub at_most_16 : callers ≤ most_callers
  pub in_all : callers * turns ≤ most_turns

pub record AreLists (lists : CallerLists) : Type 0 where
  pub few : AreFew (length lists.ids) lists.turns
  pub each : All IsList lists.ids

-- the list of a caller
abbrev pub list_of : CallerLists → ℕ → List ℕ
list_of lists caller = slice_index_or lists.ids caller []

-- the amoebot of a caller's turn
abbrev pub bot_of_turn : CallerLists → ℕ → ℕ → ℕ
bot_of_turn lists caller turn = slice_index (list_of lists caller) (turn % length (list_of lists caller))

-- each id is an amoebot's, of so many
abbrev pub HaveBots : ℕ → CallerLists → Type 0
HaveBots bots lists = All (All (λ id. id < bots)) lists.ids

-- the first world, the entries, and the number of entries for which room is reserved
pub record Kept : Type 0 where
  pub first : Config
  pub entries : List Entry
  pub spare : ℕ

-- the turns of each caller, and the marks that each caller has so far
pub record MarkLists : Type 0 where
  pub turns : ℕ
  pub marks : List (List Mark)

abbrev pub marks_of : MarkLists → ℕ → List Mark
marks_of m caller = slice_index_or m.marks caller []

-- the marks of so many callers that have none
abbrev pub no_marks : ℕ → ℕ → MarkLists
no_marks callers turns = record { turns = turns; marks = replicate callers [] }
