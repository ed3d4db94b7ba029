-- What follows from the definitions alone.
use Rattle.std.specs.Prelude.{◌≡◌, ◌≤◌, ◌↔◌, ℕ, List, length, IsSome, IfSome, ⊤}
use Rattle.std.specs.declared.option.Option.{Option}
use Rattle.std.specs.declared.option.Option.TheVariants.{Some, None}
use Rattle.claim_core.specs.declared.report.Report.{Report}
use Rattle.claim_core.specs.Turns.{CallerLists}
use Rattle.action_tree.specs.Trees.{Program}
use Rattle.shipped_programs.specs.declared.shipped.Shipped.{Shipped}
use Rattle.shape_files.specs.Documents.{Contents}
use Rattle.document_answers.specs.AnswerLaws.{SameReport}
use Rattle.commands.specs.declared.words.Command.{Command}
use Rattle.commands.specs.declared.words.Command.TheVariants.{Document, Show, Sample}
use Rattle.commands.specs.declared.words.DocumentCommand.{DocumentCommand}
use Rattle.document_answers.specs.declared.answer.Answer.{Answer}
use Rattle.commands.specs.declared.prepared.Prepared.{Prepared}
use Rattle.commands.specs.declared.tasks.Task.{Task}
use Rattle.commands.specs.declared.tasks.Task.TheVariants as task
use Rattle.commands.specs.declared.prepared.Telling.{Telling}
use Rattle.document_answers.specs.declared.status.Status.{Status}
use Rattle.document_answers.specs.declared.status.Status.TheVariants as status
use Rattle.commands.specs.Commands.{IsDocumentOf, MakesTurns, NeedsWorkers}
use Rattle.commands.specs.Reads.{Read, nothing, whole, above, up_to_fault}
use Rattle.commands.specs.Owed.{IsOwed}
use Rattle.commands.specs.Tasks.{IsRunFor, IsTaskOf, TellsReport}
use Rattle.commands.specs.Outcomes.{IsOutcome}
use Rattle.commands.specs.Headline.{IsRunOfDocument, IsRunOfSample}

-- reports that are one, or none
abbrev pub SameIfAny : Option Report → Option Report → Type 0
SameIfAny None None = Unit {0}
SameIfAny None (Some two) = ⊥
SameIfAny (Some one) None = ⊥
SameIfAny (Some one) (Some two) = SameReport one two

-- At most one report may be told, except for `run` and `tickets` of a document with two
-- lists or more, and for `sample`.
-- There it is that of any interleaving.
abbrev pub HasOneReport : Option Command → Read → Type 0
HasOneReport (Some (Document c)) (whole bytes) =
    NeedsWorkers (Some (Document c))
    → (a : Contents) → IsDocumentOf c bytes a → IfSome a.lists (λ lists. length lists.ids ≤ 1)
HasOneReport (Some (Sample seed)) read = ⊥
HasOneReport c read = ⊤

-- and at most one text: so for `sample` too
abbrev pub HasOneText : Option Command → Read → Type 0
HasOneText (Some (Document c)) read = HasOneReport (Some (Document c)) read
HasOneText c read = ⊤

-- for a command and what the input came to, one status is owed at most: so Done,
-- Refused and Differs exclude each other; and where that is said above, one report and one text
pub record SameOwed (c : Option Command) (read : Read) (s t : Status)
    (one two : Option Report) (first second : List ℕ) : Type 0 where
  pub status : s ≡ t
  pub report : HasOneReport c read → SameIfAny one two
  pub text : HasOneText c read → first ≡ second

abbrev pub OwedIsOne : Type 0
OwedIsOne = (c : Option Command) (read : Read) (s t : Status) (one two : Option Report) (text other : List ℕ)
    → IsOwed c read s one text → IsOwed c read t two other → SameOwed c read s t one two text other

-- tasks that are one, apart from the room in a report's journal
abbrev pub SameTask : Task → Task → Type 0
SameTask (task.Answered one) (task.Answered two) =
    (one.status ≡ two.status) × SameIfAny one.report two.report × (one.text ≡ two.text)
SameTask (task.Answered one) (task.Run two) = ⊥
SameTask (task.Run one) (task.Answered two) = ⊥
SameTask (task.Run one) (task.Run two) = one ≡ two

-- for a whole input of a command at most one task is to be done
abbrev pub TaskIsOne : Type 0
TaskIsOne = (c : DocumentCommand) (bytes : List ℕ) (one two : Task)
    → IsTaskOf c bytes one → IsTaskOf c bytes two → SameTask one two

-- for a command and what was read at most one run is prepared
abbrev pub PreparedIsOne : Type 0
PreparedIsOne = (c : Option Command) (read : Read) (one two : Prepared)
    → IsRunFor one c read → IsRunFor two c read → one ≡ two

-- and a report gets at most one text
abbrev pub TellingIsOne : Type 0
TellingIsOne =
    (t : Telling) (p : Program) (lists : CallerLists) (report : Report) (one two : Answer)
    → TellsReport t p lists report one
    → TellsReport t p lists report two
    → one ≡ two

-- what is owed for a document of the command is an outcome of it
abbrev pub DocumentsHaveOutcomes : Type 0
DocumentsHaveOutcomes = (c : DocumentCommand) (bytes : List ℕ)
    (a : Contents) (s : Status) (report : Option Report) (text : List ℕ)
    → IsDocumentOf c bytes a → IsOwed (Some (Document c)) (whole bytes) s report text
    → IsOutcome a c s report text

-- a report is owed exactly where a command that makes turns is done
abbrev pub ReportsAreOfTurns : Type 0
ReportsAreOfTurns = (c : Option Command) (read : Read) (s : Status) (report : Option Report) (text : List ℕ)
    → IsOwed c read s report text → IsSome report ↔ ((s ≡ status.Done) × MakesTurns c)

-- and then the input was read whole, it is a document, and the report is one of a run of it
abbrev pub ReportsAreOfDocuments : Type 0
ReportsAreOfDocuments = (c : DocumentCommand) (read : Read) (s : Status) (report : Report) (text : List ℕ)
    → IsOwed (Some (Document c)) read s (Some report) text
    → (bytes : List ℕ) × (read ≡ whole bytes) × IsRunOfDocument c bytes report text

-- or the command is `sample`, nothing was read, and the report is one
-- of a run of the number's sample
abbrev pub ReportsAreOfSamples : Type 0
ReportsAreOfSamples = (seed : ℕ) (read : Read) (s : Status) (report : Report) (text : List ℕ)
    → IsOwed (Some (Sample seed)) read s (Some report) text
    → (read ≡ nothing) × IsRunOfSample seed report text

-- a status, a report or none, and a text are owed for a command, if the words are one,
-- and for what was read
pub record SomethingOwed (c : Option Command) (read : Read) : Type 0 where
  pub status : Status
  pub report : Option Report
  pub text : List ℕ
  pub owed : IsOwed c read status report text

-- so it is for each whole input, each input that is too long, and each that fails;
-- and where nothing is read
pub record OwedIsSome : Type 0 where
  pub whole_input : (c : DocumentCommand) (bytes : List ℕ) → SomethingOwed (Some (Document c)) (whole bytes)
  pub long_input : (c : DocumentCommand) (got : List ℕ) → SomethingOwed (Some (Document c)) (above got)
  pub failed_input : (c : DocumentCommand) (got : List ℕ)
      → SomethingOwed (Some (Document c)) (up_to_fault got)
  pub show : (program : Shipped) → SomethingOwed (Some (Show program)) nothing
  pub sample : (seed : ℕ) → SomethingOwed (Some (Sample seed)) nothing
  pub no_command : SomethingOwed None nothing
