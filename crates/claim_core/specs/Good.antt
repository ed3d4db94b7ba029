-- When a report is a good one of a run: its journal is a run of the model,
-- and each mark tells what became of its turn.
use Rattle.std.specs.Prelude.{◌≡◌, ◌≢◌, ℕ, ◌+◌, ◌<◌, ◌≤◌, List, length, slice_get}
use Rattle.std.specs.List.{All, AllPairs, Contains}
use Rattle.std.specs.declared.option.Option.{Option}
use Rattle.std.specs.declared.option.Option.TheVariants.{Some}
use Rattle.amoebot_state.specs.declared.cell.CellName.{CellName}
use Rattle.amoebot_state.specs.declared.verdict.Entry.{Entry}
use Rattle.amoebot_state.specs.declared.verdict.Verdict.{Verdict}
use Rattle.amoebot_state.specs.declared.verdict.Verdict.TheVariants as verdict
use Rattle.amoebot_state.specs.Configs.{Config, IsValid}
use Rattle.amoebot_state.specs.Zones.{Shown, shown, zone}
use Rattle.amoebot_state.specs.Steps.{Run, IsWorldAt}
use Rattle.claim_core.specs.declared.marks.Mark.{Mark}
use Rattle.claim_core.specs.declared.marks.Mark.TheVariants as mark
use Rattle.claim_core.specs.declared.report.Report.{Report}
use Rattle.claim_core.specs.Turns.{CallerLists, MarkLists, bot_of_turn, marks_of}

-- what f decides on an amoebot in the world at a place
abbrev pub HasVerdict : (Shown → Verdict) → Config → List Entry → ℕ → ℕ → Verdict → Type 0
HasVerdict f first entries place bot v =
    (world : Config) × IsWorldAt f first entries place world × (f (shown world bot) ≡ v)

-- a cell is in the zone of an amoebot in the world at a place
abbrev pub HasInZone : (Shown → Verdict) → Config → List Entry → ℕ → ℕ → CellName → Type 0
HasInZone f first entries place bot cell =
    (world : Config) × IsWorldAt f first entries place world × Contains (zone world bot) cell

-- an entry is one of a turn of the lists
pub record IsListed (lists : CallerLists) (e : Entry) : Type 0 where
  pub caller : e.caller < length lists.ids
  pub turn : e.turn < lists.turns
  pub bot : e.bot ≡ bot_of_turn lists e.caller e.turn

-- each entry is one of a turn of the lists, and the turns of one caller
-- rise strictly along the journal
pub record Order (lists : CallerLists) (entries : List Entry) : Type 0 where
  pub listed : All (IsListed lists) entries
  pub rising : AllPairs (λ one later. one.caller ≡ later.caller → one.turn < later.turn) entries

-- the mark of a caller's turn, if it has one
abbrev pub mark_of_turn : MarkLists → ℕ → ℕ → Option Mark
mark_of_turn marks caller turn = slice_get (marks_of marks caller) turn

-- the place in a mark
abbrev pub place_of : Mark → ℕ
place_of (mark.Done place) = place
place_of (mark.Idle place) = place
place_of (mark.Failed why place) = place
place_of (mark.Busy cell by_caller by_turn by_bot place) = place

-- the least place that the caller's later turns may have: above the own entry
abbrev pub place_after : Mark → ℕ
place_after (mark.Done place) = place + 1
place_after (mark.Idle place) = place
place_after (mark.Failed why place) = place
place_after (mark.Busy cell by_caller by_turn by_bot place) = place

-- a turn of another caller, on its amoebot, at whose mark's place the cell was in its zone
pub record MayHold (f : Shown → Verdict) (first : Config) (lists : CallerLists) (entries : List Entry)
    (marks : MarkLists) (caller : ℕ) (cell : CellName) (by_caller by_turn by_bot : ℕ) : Type 0 where
  pub listed : by_caller < length lists.ids
  pub other : by_caller ≢ caller
  pub turn : by_turn < lists.turns
  pub bot : by_bot ≡ bot_of_turn lists by_caller by_turn
  pub in_zone : (by : Mark) × (mark_of_turn marks by_caller by_turn ≡ Some by)
      × HasInZone f first entries (place_of by) by_bot cell

-- what the mark of a caller's turn says is so: Done that the entry at the place is the turn's;
-- Idle and Failed that this is the verdict on the world at the place;
-- Busy that the cell is in the amoebot's zone there and that the other turn may have held it
abbrev pub TurnOk : (Shown → Verdict) → Config → CallerLists → List Entry → MarkLists → ℕ → ℕ → Mark → Type 0
TurnOk f first lists entries marks caller turn (mark.Done place) =
    (e : Entry) × (slice_get entries place ≡ Some e) × (e.caller ≡ caller) × (e.turn ≡ turn)
TurnOk f first lists entries marks caller turn (mark.Idle place) =
    HasVerdict f first entries place (bot_of_turn lists caller turn) verdict.Idle
TurnOk f first lists entries marks caller turn (mark.Failed why place) =
    HasVerdict f first entries place (bot_of_turn lists caller turn) (verdict.Failed why)
TurnOk f first lists entries marks caller turn (mark.Busy cell by_caller by_turn by_bot place) =
    HasInZone f first entries place (bot_of_turn lists caller turn) cell
    × MayHold f first lists entries marks caller cell by_caller by_turn by_bot

-- Two relations between the number of a caller's marks and the number of its list's turns.
-- After the run each turn has a mark.
abbrev pub AllTurns : ℕ → ℕ → Type 0
AllTurns marked turns = marked ≡ turns

-- Before its end only the first turns have one.
abbrev pub SoFar : ℕ → ℕ → Type 0
SoFar marked turns = marked ≤ turns

-- So many turns of each caller have one mark each, which is right, Busy included.
-- Each entry is its turn's.
-- Along the turns of one caller places never fall, and a later one is above the own entry.
-- So a later turn sees all that its caller committed.
pub record AreMarks (has_marks : ℕ → ℕ → Type 0) (f : Shown → Verdict) (first : Config) (lists : CallerLists)
    (entries : List Entry) (marks : MarkLists) : Type 0 where
  pub callers : length marks.marks ≡ length lists.ids
  pub turns : All (λ own. has_marks (length own) lists.turns) marks.marks
  pub right : (caller turn : ℕ) (m : Mark)
      → mark_of_turn marks caller turn ≡ Some m
      → TurnOk f first lists entries marks caller turn m
  pub committed : (place : ℕ) (e : Entry)
      → slice_get entries place ≡ Some e
      → mark_of_turn marks e.caller e.turn ≡ Some (mark.Done place)
  pub rising : All (AllPairs (λ one later. place_after one ≤ place_of later)) marks.marks

-- the journal is a run of the model from the valid world w0 to the report's world,
-- its entries are those of turns of the lists in their order, and the marks are those of the turns
pub record Good (f : Shown → Verdict) (w0 : Config) (lists : CallerLists) (report : Report) : Type 0 where
  pub valid : IsValid w0
  pub first : report.journal.first ≡ w0
  pub run : Run f w0 report.journal.entries report.world
  pub order : Order lists report.journal.entries
  pub marks : AreMarks AllTurns f w0 lists report.journal.entries report.turns
