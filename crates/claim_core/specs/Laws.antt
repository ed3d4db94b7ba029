-- What follows from the definitions alone.
use Rattle.std.specs.Prelude.{◌≡◌, ◌≢◌, ℕ, ◌<◌, ◌≤◌, List, [], map, length, slice_get}
use Rattle.std.specs.List.{All, Contains}
use Rattle.std.specs.declared.option.Option.TheVariants.{Some}
use Rattle.amoebot_state.specs.declared.cell.CellName.{CellName}
use Rattle.amoebot_state.specs.declared.verdict.Entry.{Entry}
use Rattle.amoebot_state.specs.declared.verdict.Verdict.{Verdict}
use Rattle.amoebot_state.specs.declared.verdict.Verdict.TheVariants as verdict
use Rattle.amoebot_state.specs.Limits.{most_bots}
use Rattle.amoebot_state.specs.Configs.{Config}
use Rattle.amoebot_state.specs.Zones.{Shown, shown}
use Rattle.amoebot_state.specs.Steps.{change_of, IsWorldAt}
use Rattle.claim_core.specs.declared.marks.Mark.TheVariants as mark
use Rattle.claim_core.specs.declared.report.Report.{Report}
use Rattle.claim_core.specs.declared.state.Phase.TheVariants.{Ended}
use Rattle.claim_core.specs.declared.state.Caller.{Caller}
use Rattle.claim_core.specs.Limits.{most_turns}
use Rattle.claim_core.specs.Turns.{CallerLists}
use Rattle.claim_core.specs.Good.{Good, mark_of_turn}
use Rattle.claim_core.specs.SerialRuns.{SerialRun, all_turns, left_by}
use Rattle.claim_core.specs.Tags.{tag, tag_caller, tag_turn, tag_bot}
use Rattle.claim_core.specs.Cells.{number, at}
use Rattle.claim_core.specs.Machine.{Setup, State, next, after, committed}
use Rattle.claim_core.specs.Soundness.{IsSetup, Sound, names}
use Rattle.claim_core.specs.Reached.{HaveEnded, IsReportOf, Reached, entries_of, placed, IsShownAt}
use Rattle.claim_core.specs.StepRounds.{step_rounds, most_step_rounds}

-- a tag tells its caller, its turn and its amoebot, and is not 0
abbrev pub TagTellsItsOwner : Type 0
TagTellsItsOwner =
    (caller turn bot : ℕ)
    → turn < most_turns
    → bot < most_bots
    → (tag_caller (tag caller turn bot) ≡ caller) × (tag_turn (tag caller turn bot) ≡ turn)
    × (tag_bot (tag caller turn bot) ≡ bot) × (tag caller turn bot ≢ 0)

-- after any list of steps the state is sound
abbrev pub IsAlwaysSound : Type 0
IsAlwaysSound = (g : Setup) → IsSetup g → (steps : List ℕ) → Sound g (after g steps)

-- a report that some interleaving gives is a good one
abbrev pub ReachedIsGood : Type 0
ReachedIsGood = (g : Setup) → IsSetup g → (report : Report)
    → Reached g report → Good g.verdict g.world g.lists report

-- a state has at most one report: two of them have one world,
-- journals of one first world and the same entries, and the same marks.
-- So they are one, except for the room in their journals
abbrev pub StateHasOneReport : Type 0
StateHasOneReport =
    (g : Setup) (s : State) (one two : Report)
    → IsReportOf g s one
    → IsReportOf g s two
    → (one.world ≡ two.world) × (one.journal.first ≡ two.journal.first)
    × (one.journal.entries ≡ two.journal.entries)
    × (one.turns ≡ two.turns)

-- each entry's change was decided on what the run shows its amoebot at its place
abbrev pub EntryIsDecided : Type 0
EntryIsDecided =
    (g : Setup)
    → IsSetup g
    → (steps : List ℕ) (place : ℕ) (e : Entry)
    → slice_get (after g steps).journal place ≡ Some e
    → (world : Config) × IsWorldAt g.verdict g.world (after g steps).journal place world
    × (g.verdict (shown world e.bot) ≡ verdict.Change (change_of e))

-- what is kept beside the state as committed by a caller is the caller's entries of the journal,
-- each with its place
abbrev pub CommittedIsJournal : Type 0
CommittedIsJournal =
    (g : Setup) (c : ℕ) (steps : List ℕ)
    → map placed (committed g c steps) ≡ entries_of c 0 (after g steps).journal

-- and with what the run shows the entry's amoebot there
abbrev pub CommittedIsShown : Type 0
CommittedIsShown =
    (g : Setup)
    → IsSetup g
    → (c : ℕ) (steps : List ℕ)
    → All (IsShownAt g (after g steps).journal) (committed g c steps)

-- in a good report of at most one list no turn is Busy
abbrev pub OneListIsNeverBusy : Type 0
OneListIsNeverBusy =
    (f : Shown → Verdict) (w0 : Config) (lists : CallerLists) (report : Report)
    → length lists.ids ≤ 1
    → Good f w0 lists report
    → (caller turn by_caller by_turn by_bot place : ℕ) (n : CellName)
    → mark_of_turn report.turns caller turn ≢ Some (mark.Busy n by_caller by_turn by_bot place)

-- and the report is what the turns leave one after another, so that it is determined
abbrev pub OneListIsSerial : Type 0
OneListIsSerial =
    (f : Shown → Verdict) (w0 : Config) (lists : CallerLists) (report : Report)
    → length lists.ids ≤ 1
    → Good f w0 lists report
    → SerialRun f w0 lists (all_turns lists) (left_by report)

-- a step of a caller that has ended changes nothing
abbrev pub EndedStays : Type 0
EndedStays = (g : Setup) (s : State) (c : ℕ) (k : Caller)
    → slice_get s.callers c ≡ Some k → k.phase ≡ Ended → next g c s ≡ s

-- no cell has a tag of a caller that holds nothing
abbrev pub HoldsNothingHasNoTag : Type 0
HoldsNothingHasNoTag =
    (g : Setup)
    → IsSetup g
    → (steps : List ℕ) (c : ℕ) (k : Caller)
    → slice_get (after g steps).callers c ≡ Some k
    → k.held ≡ []
    → (n : CellName) (t : ℕ)
    → at (after g steps).tags (number g.world.area n) ≡ Some t
    → t ≢ 0
    → tag_caller t ≢ c

-- no cell is held by two callers
abbrev pub HeldByOne : Type 0
HeldByOne =
    (g : Setup)
    → IsSetup g
    → (steps : List ℕ) (c d : ℕ) (k j : Caller)
    → slice_get (after g steps).callers c ≡ Some k
    → slice_get (after g steps).callers d ≡ Some j
    → (n : CellName)
    → Contains (names k.held) n
    → Contains (names j.held) n
    → c ≡ d

-- after any steps, so many rounds are enough for all callers to end
abbrev pub RoundsEnd : Type 0
RoundsEnd = (g : Setup) → IsSetup g → (steps : List ℕ)
    → HaveEnded (step_rounds g (most_step_rounds g.lists) (after g steps))

-- after any steps, some number of rounds is the first with which all callers have ended,
-- and then there is a report
pub record EndsInRounds (g : Setup) (steps : List ℕ) : Type 0 where
  pub count : ℕ
  pub ended : HaveEnded (step_rounds g count (after g steps))
  pub first : (n : ℕ) → n < count → ¬ HaveEnded (step_rounds g n (after g steps))
  pub report : Report
  pub left : IsReportOf g (step_rounds g count (after g steps)) report
  pub reached : Reached g report

abbrev pub RoundsLeaveAReport : Type 0
RoundsLeaveAReport = (g : Setup) → IsSetup g → (steps : List ℕ) → EndsInRounds g steps
