-- Entries that break no limit are read back from their text, and marks are read.
use Rattle.std.specs.Prelude.{◌≡◌, ◌≢◌, ◌<◌, ◌≤◌, ◌^◌, ℕ, true, false, List, length, IfSome, Ok}
use Rattle.std.specs.List.{All}
use Rattle.text_tokens.specs.Cursor.{IsShort}
use Rattle.text_tokens.specs.Grammar.{Lang}
use Rattle.amoebot_state.specs.declared.cell.CellName.{CellName}
use Rattle.amoebot_state.specs.declared.cell.CellName.TheVariants as name
use Rattle.amoebot_state.specs.declared.cell.Cell.{Cell}
use Rattle.amoebot_state.specs.declared.cell.Cell.TheVariants as cell
use Rattle.amoebot_state.specs.declared.verdict.Entry.{Entry}
use Rattle.amoebot_state.specs.declared.verdict.Failure.{Failure}
use Rattle.amoebot_state.specs.declared.verdict.Failure.TheVariants as failure
use Rattle.amoebot_state.specs.declared.verdict.Moved.{Moved}
use Rattle.amoebot_state.specs.declared.verdict.Moved.TheVariants as moved
use Rattle.amoebot_state.specs.Limits.{most_vars, most_pairs}
use Rattle.amoebot_state.specs.Steps.{plain_entry}
use Rattle.claim_core.specs.declared.marks.Mark.{Mark}
use Rattle.claim_core.specs.declared.marks.Mark.TheVariants as mark
use Rattle.claim_core.specs.Limits.{most_callers, most_turns}
use Rattle.claim_core.specs.Turns.{MarkLists}
use Rattle.journal_text.specs.Turns.{IsTurns}
use Rattle.journal_text.specs.Journals.{WrittenChange, WrittenEntry, is_known, IsJournal, IsPlainJournal}
use Rattle.text_tokens.specs.Inputs.{Says}
use Rattle.journal_text.specs.Texts.{text_by, written_full, written_plain, turns_text}
use Rattle.shape_text.specs.Parts.{may_have_walls}
use Rattle.shape_text.specs.PartLimits.{HasCoordinates, HasLimits}

-- a node with its occupant, or a body with an amoebot
abbrev pub IsWritablePair : ℕ → CellName × Cell → Type 0
IsWritablePair vars (name.Spot v, cell.Spot o) = HasCoordinates v
IsWritablePair vars (name.Spot v, cell.Body b) = ⊥
IsWritablePair vars (name.Body i, cell.Spot o) = ⊥
IsWritablePair vars (name.Body i, cell.Body b) = HasLimits vars b

-- the value before is such a one too, where it is written
abbrev pub IsWritableChange : ℕ → WrittenChange → Type 0
IsWritableChange vars t = IfSome t.1 (λ x. IsWritablePair vars (t.0, x)) × IsWritablePair vars (t.0, t.2)

abbrev pub IsPossible : Moved → Type 0
IsPossible moved.None = Unit {0}
IsPossible (moved.Expand p) = p.dir ≤ 5
IsPossible (moved.Contract e) = Unit {0}
IsPossible (moved.Push p) = p.dir ≤ 5
IsPossible (moved.Pull p) = p.dir ≤ 5

-- an entry that breaks no limit
pub record KeepsLimits (bots actions vars : ℕ) (w : WrittenEntry) : Type 0 where
  pub known : is_known bots actions w ≡ true
  pub movement : IsPossible w.moved
  pub few : length w.changes ≤ most_pairs
  pub pairs : All (IsWritableChange vars) w.changes

-- Such entries, at most so many, are read back from their text, in a world of so many amoebots,
-- with a program of so many actions.
abbrev pub AreReadBack : {E : Type 0} → (E → WrittenEntry) → (ℕ → ℕ → ℕ → Lang (List E)) → Type 0
AreReadBack {E} written P =
    (bots actions vars : ℕ) (entries : List E)
    → bots < 2 ^ 16
    → actions < 2 ^ 8
    → vars ≤ most_vars
    → length entries ≤ most_turns
    → All (λ e. KeepsLimits bots actions vars (written e)) entries
    → Says (P bots actions vars) (text_by written vars entries) (Ok entries)

-- with old values, and without them
abbrev pub JournalsReadBack : Type 0
JournalsReadBack = AreReadBack written_full IsJournal

abbrev pub PlainJournalsReadBack : Type 0
PlainJournalsReadBack = AreReadBack written_plain IsPlainJournal

-- an entry that breaks no limit breaks none without its old values
abbrev pub PlainKeepsLimits : Type 0
PlainKeepsLimits =
    (bots actions vars : ℕ) (e : Entry)
    → KeepsLimits bots actions vars (written_full e)
    → KeepsLimits bots actions vars (written_plain (plain_entry e))

-- ---- marks

abbrev pub IsWritableCell : CellName → Type 0
IsWritableCell (name.Spot v) = HasCoordinates v
IsWritableCell (name.Body i) = IsShort i

pub record IsClaim (c : CellName) (by_caller by_turn by_bot place : ℕ) : Type 0 where
  pub cell : IsWritableCell c
  pub caller : IsShort by_caller
  pub turn : IsShort by_turn
  pub bot : IsShort by_bot
  pub at : IsShort place

-- a failure that has a word in texts of the version: blocked only where there may be walls
abbrev pub IsWritableFailure : ℕ → Failure → Type 0
IsWritableFailure version f = may_have_walls version ≡ false → f ≢ failure.Blocked

-- a mark of such numbers, of a node with coordinates in range, and of such a failure
abbrev pub IsWritableMark : ℕ → Mark → Type 0
IsWritableMark version (mark.Done place) = IsShort place
IsWritableMark version (mark.Idle place) = IsShort place
IsWritableMark version (mark.Failed f place) = IsShort place × IsWritableFailure version f
IsWritableMark version (mark.Busy c by_caller by_turn by_bot place) = IsClaim c by_caller by_turn by_bot place

pub record AreWritable (version : ℕ) (marks : List Mark) : Type 0 where
  pub few : length marks ≤ most_turns
  pub each : All (IsWritableMark version) marks

-- the text of such marks, of at most 16 callers, is one of turns
abbrev pub TurnsReadBack : Type 0
TurnsReadBack =
    (version : ℕ) (m : MarkLists)
    → length m.marks ≤ most_callers
    → All (AreWritable version) m.marks
    → Says (IsTurns version) (turns_text m) (Ok tt)
