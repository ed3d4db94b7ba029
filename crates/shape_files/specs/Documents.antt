-- Documents: what each section is, in the state that those before it gave,
-- and what a document of a form has.
use Rattle.std.specs.Prelude.{◌≡◌, ℕ, Bool, true, false, List, [], ◌∷◌, Option, Some, None, Result, Ok, Err, length}
use Rattle.text_tokens.specs.declared.refusal.Refusal.{Refusal}
use Rattle.text_tokens.specs.declared.refusal.RefusalKind.TheVariants.{Trailing}
use Rattle.text_tokens.specs.Text.{Lexeme, AreTokens}
use Rattle.text_tokens.specs.Grammar.{Lang, Made, Judged}
use Rattle.text_tokens.specs.Inputs.{IsInput, IsInputFault}
use Rattle.amoebot_state.specs.declared.verdict.Entry.{Entry}
use Rattle.amoebot_state.specs.declared.verdict.PlainEntry.{PlainEntry}
use Rattle.amoebot_state.specs.Configs.{Config}
use Rattle.claim_core.specs.Turns.{CallerLists}
use Rattle.action_tree.specs.Trees as tree
use Rattle.action_tree.specs.Programs.{IsProgram}
use Rattle.action_check.specs.Faults.{faults}
use Rattle.action_check.specs.Maxes.{maxes_of}
use Rattle.shape_text.specs.Parts.{has_old_values}
use Rattle.journal_text.specs.Journals.{IsJournal, IsPlainJournal}
use Rattle.journal_text.specs.Turns.{IsTurns}
use Rattle.shape_text.specs.Shapes.{IsShape, IsFinal}
use Rattle.schedule_text.specs.Lists.{IsLists}
use Rattle.schedule_text.specs.Schedules.{IsSchedule}
use Rattle.shape_files.specs.declared.section_kind.Section.{Section}
use Rattle.shape_files.specs.declared.section_kind.Section.TheVariants.{Program, Shape, Lists, Schedule, Journal, Final, Turns}
use Rattle.shape_files.specs.declared.section_kind.Form.{Form}
use Rattle.shape_files.specs.Frame.{course_of, least_version, IsInFrameFrom}
use Rattle.shape_files.specs.FrameLaws.{SameTexts}

-- What a document has: its version, its program, the configuration at the start, the lists,
-- the steps of the schedule, the entries of the journal with old values or without,
-- and the configuration at the end.
-- Its turns are read by their grammar alone.
pub record Contents : Type 0 where
  pub version : ℕ
  pub checked : Option tree.Program
  pub world : Option Config
  pub lists : Option CallerLists
  pub schedule : Option (List ℕ)
  pub entries : Option (List Entry)
  pub plain : Option (List PlainEntry)
  pub final_world : Option Config

-- nothing is read yet but the version
abbrev pub nothing_yet : ℕ → Contents
nothing_yet version =
    record {
      version = version;
      checked = None;
      world = None;
      lists = None;
      schedule = None;
      entries = None;
      plain = None;
      final_world = None;
    }

-- ---- what later sections have to know of earlier ones

-- how many variables and actions there are, and the maxima of the variables
abbrev pub var_count : Option tree.Program → ℕ
var_count None = 0
var_count (Some p) = length p.vars

abbrev pub actions_of : Option tree.Program → ℕ
actions_of None = 0
actions_of (Some p) = length p.actions

abbrev pub maxes_in : Option tree.Program → List ℕ
maxes_in None = 0 ∷ 0 ∷ 0 ∷ 0 ∷ 0 ∷ 0 ∷ 0 ∷ 0 ∷ []
maxes_in (Some p) = maxes_of p

-- how many amoebots
abbrev pub bots_of : Option Config → ℕ
bots_of None = 0
bots_of (Some c) = length c.bots

-- how many callers
abbrev pub callers_of : Option CallerLists → ℕ
callers_of None = 0
callers_of (Some l) = length l.ids

-- ---- the sections

-- the first, if there is one
abbrev pub first_in : List Refusal → Option Refusal
first_in [] = None
first_in (r ∷ rs) = Some r

-- a program that keeps the rules on names and ranges
abbrev pub IsCheckedProgram : Lang tree.Program
IsCheckedProgram = Judged IsProgram (λ p. first_in (faults p))

-- a journal, with old values or without
abbrev pub JournalBody : Bool → Contents → Lang Contents
JournalBody true s =
    Made (IsJournal (bots_of s.world) (actions_of s.checked) (var_count s.checked))
    (λ es. record s { entries = Some es })
JournalBody false s =
    Made (IsPlainJournal (bots_of s.world) (actions_of s.checked) (var_count s.checked))
    (λ ps. record s { plain = Some ps })

abbrev pub Body : Section → Contents → Lang Contents
Body Program s = Made IsCheckedProgram (λ p. record s { checked = Some p })
Body Shape s =
    Made (IsShape s.version (var_count s.checked) (maxes_in s.checked)) (λ c. record s { world = Some c })
Body Lists s = Made (IsLists (bots_of s.world)) (λ l. record s { lists = Some l })
Body Schedule s = Made (IsSchedule (callers_of s.lists)) (λ steps. record s { schedule = Some steps })
Body Journal s = JournalBody (has_old_values s.version) s
Body Final s = Made (IsFinal s.version (var_count s.checked) (maxes_in s.checked)) (λ c.
    record s { final_world = Some c })
Body Turns s = Made (IsTurns s.version) (λ u. s)

-- ---- documents

-- the tokens of a document of a form whose version is not below a least one, with what it has
abbrev pub IsDocumentFrom : ℕ → Form → Lang Contents
IsDocumentFrom least form = IsInFrameFrom least Body (course_of form) nothing_yet

-- the same for each version that there is
abbrev pub IsDocument : Form → Lang Contents
IsDocument form = IsDocumentFrom least_version form

-- the bytes are a document of the form that has this, of a version that is not below a least one
abbrev pub HasContentsFrom : ℕ → Form → List ℕ → Contents → Type 0
HasContentsFrom least form bytes a =
    (ts : List Lexeme) (last : Refusal) → AreTokens bytes 0 ts last
    → IsInput (IsDocumentFrom least form) Trailing last ts a

-- the same for each version that there is
abbrev pub HasContents : Form → List ℕ → Contents → Type 0
HasContents form bytes a = HasContentsFrom least_version form bytes a

-- they are none, and this is their first fault
abbrev pub IsDocumentFaultFrom : ℕ → Form → List ℕ → Refusal → Type 0
IsDocumentFaultFrom least form bytes r =
    (ts : List Lexeme) (last : Refusal)
    → AreTokens bytes 0 ts last
    → IsInputFault (IsDocumentFrom least form) Trailing last ts r

-- ---- laws

-- Of any bytes one thing holds: they are a document of the form, which has one thing,
-- or they have one first fault.
abbrev pub FormSaysFrom : ℕ → Form → List ℕ → Result Contents Refusal → Type 0
FormSaysFrom least form bytes (Ok a) = HasContentsFrom least form bytes a
FormSaysFrom least form bytes (Err r) = IsDocumentFaultFrom least form bytes r

abbrev pub FormSays : Form → List ℕ → Result Contents Refusal → Type 0
FormSays form bytes r = FormSaysFrom least_version form bytes r

pub record IsDecidedFrom (least : ℕ) (form : Form) : Type 0 where
  pub some : (bytes : List ℕ) → (r : Result Contents Refusal) × FormSaysFrom least form bytes r
  pub one : (bytes : List ℕ) (r s : Result Contents Refusal)
      → FormSaysFrom least form bytes r
      → FormSaysFrom least form bytes s
      → r ≡ s

abbrev pub IsDecidedForm : Form → Type 0
IsDecidedForm form = IsDecidedFrom least_version form

abbrev pub DocumentsAreDecided : Type 0
DocumentsAreDecided = (form : Form) → IsDecidedForm form

-- The documents of each form, behind the header, are the form's sections one behind the other.
abbrev pub FormsAreStraight : Type 0
FormsAreStraight = (form : Form) (version : ℕ) → SameTexts Body (course_of form) (nothing_yet version)
