-- The run of at most one list, whose turns are made one after another:
-- what it leaves is determined.
use Rattle.std.specs.Prelude.{◌≡◌, ℕ, zero, suc, ◌*◌, ◌≤◌, List, [], ◌∷◌, ◌++◌, length}
use Rattle.amoebot_state.specs.declared.verdict.Entry.{Entry}
use Rattle.amoebot_state.specs.declared.verdict.Verdict.{Verdict}
use Rattle.amoebot_state.specs.Configs.{Config}
use Rattle.amoebot_state.specs.Zones.{Shown}
use Rattle.amoebot_state.specs.declared.verdict.Turned.{Turned}
use Rattle.amoebot_state.specs.declared.verdict.Turned.TheVariants as turned
use Rattle.amoebot_state.specs.SerialTurns.{SerialTurn}
use Rattle.claim_core.specs.declared.marks.Mark.{Mark}
use Rattle.claim_core.specs.declared.marks.Mark.TheVariants as mark
use Rattle.claim_core.specs.declared.report.Report.{Report}
use Rattle.claim_core.specs.Turns.{CallerLists, bot_of_turn, marks_of}
use Rattle.claim_core.specs.Good.{Good}

-- what the turns so far left: their marks, the entries of the journal, and the world
pub record Left : Type 0 where
  pub marks : List Mark
  pub entries : List Entry
  pub world : Config

-- the mark of a turn that was made at a place of the journal; none is Busy
abbrev pub mark_at : ℕ → Turned → Mark
mark_at place (turned.Done e) = mark.Done place
mark_at place turned.Idle = mark.Idle place
mark_at place (turned.Failed why) = mark.Failed why place

-- the entries that a turn adds
abbrev pub entries_by : Turned → List Entry
entries_by (turned.Done e) = e ∷ []
entries_by turned.Idle = []
entries_by (turned.Failed why) = []

-- the only caller's turn: it is the verdict on the world reached, a step of the model or none,
-- and its mark and entry stand last
pub record MakesTurn (f : Shown → Verdict) (lists : CallerLists) (turn : ℕ) (old new : Left) : Type 0 where
  pub turned : Turned
  pub made : SerialTurn f 0 turn (bot_of_turn lists 0 turn) old.world turned new.world
  pub marks : new.marks ≡ old.marks ++ mark_at (length old.entries) turned ∷ []
  pub entries : new.entries ≡ old.entries ++ entries_by turned

-- what so many turns of the only caller leave, one after another from the world w0
abbrev pub SerialRun : (Shown → Verdict) → Config → CallerLists → ℕ → Left → Type 0
SerialRun f w0 lists zero left = left ≡ record { marks = []; entries = []; world = w0 }
SerialRun f w0 lists (suc turn) left =
    (before : Left) × SerialRun f w0 lists turn before × MakesTurn f lists turn before left

-- the turns of all callers together
abbrev pub all_turns : CallerLists → ℕ
all_turns lists = length lists.ids * lists.turns

-- what a report of at most one list says
abbrev pub left_by : Report → Left
left_by report =
    record { marks = marks_of report.turns 0; entries = report.journal.entries; world = report.world }

-- so many turns leave at most one thing
abbrev pub SerialRunIsDetermined : Type 0
SerialRunIsDetermined =
    (f : Shown → Verdict) (w0 : Config) (lists : CallerLists) (turns : ℕ) (one two : Left)
    → SerialRun f w0 lists turns one
    → SerialRun f w0 lists turns two
    → one ≡ two

-- so two good reports of one run of at most one list have one world,
-- the same entries and the same marks
abbrev pub SerialReportIsDetermined : Type 0
SerialReportIsDetermined =
    (f : Shown → Verdict) (w0 : Config) (lists : CallerLists) (one two : Report)
    → length lists.ids ≤ 1
    → Good f w0 lists one
    → Good f w0 lists two
    → SerialRun f w0 lists (all_turns lists) (left_by one)
    → SerialRun f w0 lists (all_turns lists) (left_by two)
    → (one.world ≡ two.world) × (one.journal.entries ≡ two.journal.entries)
    × (one.turns.marks ≡ two.turns.marks)
