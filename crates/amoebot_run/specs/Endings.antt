-- How a call of `run` or `run_text` may end.
use Rattle.std.specs.Prelude.{◌≡◌, ◌<◌, ◌≤◌, ◌↔◌, ◌⊎◌, ℕ, List, length, IsSome, ⊤}
use Rattle.std.specs.declared.option.Option.{Option}
use Rattle.std.specs.declared.option.Option.TheVariants.{Some, None}
use Rattle.outer_io.specs.Told.{Grows}
use Rattle.outer_io.specs.KeptBytes.{KeptBytes, kept_after, written_of}
use Rattle.claim_core.specs.declared.report.Report.{Report}
use Rattle.shape_files.specs.Documents.{Contents}
use Rattle.commands.specs.declared.words.Command.{Command}
use Rattle.commands.specs.declared.words.Command.TheVariants.{Document, Sample}
use Rattle.commands.specs.declared.words.DocumentCommand.{DocumentCommand}
use Rattle.document_answers.specs.declared.status.Status.{Status}
use Rattle.document_answers.specs.declared.status.Status.TheVariants as status
use Rattle.commands.specs.Commands.{MakesTurns, ReadsNothing, limit_for}
use Rattle.commands.specs.Headline.{IsRunOfDocument, IsRunOfSample}
use Rattle.commands.specs.Laws.{HasOneReport, HasOneText, SameIfAny}
use Rattle.commands.specs.Outcomes.{IsOutcome}
use Rattle.commands.specs.Reads.{Read, nothing, whole, above, up_to_fault, some}
use Rattle.commands.specs.Owed.{IsOwed}
use Rattle.commands.specs.Sample.{six_lines}

-- no read failed, and no byte above the limit was got
abbrev pub IsReadWithinLimit : Read → Type 0
IsReadWithinLimit nothing = ⊤
IsReadWithinLimit (whole bytes) = ⊤
IsReadWithinLimit (above bytes) = ⊥
IsReadWithinLimit (up_to_fault bytes) = ⊥
IsReadWithinLimit (some bytes) = ⊤

-- How a call ends for a command, if the words are one.
-- `Reads` says what the input came to, and `Writes` that a text and nothing else was written.
-- `Cuts` says that a write failed behind a front of it, and `Untouched` that nothing was written.
pub data IsEnding
    (command : Option Command) (Reads : Read → Type 0) (Writes Cuts : List ℕ → Type 0) (Untouched : Type 0)
    : Status → Option Report → Type 0 where
  -- what is owed for what was read was written whole
  written : (read : Read) (s : Status) (report : Option Report) (text : List ℕ)
      → Reads read → IsOwed command read s report text → Writes text
      → IsEnding command Reads Writes Cuts Untouched s report
  -- a write of it failed
  cut : (read : Read) (s : Status) (report : Option Report) (text : List ℕ)
      → Reads read → IsOwed command read s report text → Cuts text
      → IsEnding command Reads Writes Cuts Untouched status.WriteFault None
  -- it was out of memory, before the first write
  wanting : (read : Read) → Reads read → IsReadWithinLimit read → Untouched
      → IsEnding command Reads Writes Cuts Untouched status.NoMemory None

-- the three that no document owes
abbrev pub IsOutsideFault : Status → Type 0
IsOutsideFault status.Done = ⊥
IsOutsideFault status.Words = ⊥
IsOutsideFault (status.Refused refusal) = ⊥
IsOutsideFault status.ReadFault = ⊤
IsOutsideFault status.WriteFault = ⊤
IsOutsideFault status.NoMemory = ⊤
IsOutsideFault (status.Differs place) = ⊥

-- what was owed was not written whole: a write failed, or it was out of memory
abbrev pub IsUnwritten : Status → Type 0
IsUnwritten s = (s ≡ status.WriteFault) ⊎ (s ≡ status.NoMemory)

-- the call answers what is owed: its status; and where at most one report may be told, or one text,
-- its report and its text
pub record IsAnswered
    (command : Option Command) (read : Read) (s : Status) (report : Option Report) (text : List ℕ)
    (Writes : List ℕ → Type 0) (ended : Status) (left : Option Report)
    : Type 0 where
  pub status : ended ≡ s
  pub told : HasOneReport command read → SameIfAny left report
  pub writes : HasOneText command read → Writes text

-- What the ending of a call comes to, by its command and by what is owed for it.
-- `Has` says that the input has these bytes, and `Writes` that a text and nothing else was written.
-- `ReadFails` and `WriteFails` are the causes of a fault,
-- and `Untouched` says that nothing was written.
-- `IsFault` holds of the statuses that may come in place of what is owed for bytes that were read.
-- `IsOutage` holds of those that may come in place of what is owed where nothing is read.
pub record EndingTells
    (command : Option Command) (Has Writes : List ℕ → Type 0) (ReadFails WriteFails Untouched : Type 0)
    (IsFault IsOutage : Status → Type 0) (ended : Status) (left : Option Report)
    : Type 0 where
  -- a report comes exactly with Done of `run`, `interleave`, `tickets` and `sample`
  pub report : IsSome left ↔ ((ended ≡ status.Done) × MakesTurns command)
  -- What is owed for the bytes of the input is what the call answers,
  -- unless it is out of memory or a read or a write fails:
  -- the status, and where the input decides what is written, the report and the text.
  -- With at most one list it does so for `run` and `tickets`.
  pub determined : (document : List ℕ) (s : Status) (report : Option Report) (text : List ℕ)
      → Has document
      → length document ≤ limit_for command
      → IsOwed command (whole document) s report text
      → IsAnswered command (whole document) s report text Writes ended left ⊎ IsFault ended
  -- What is owed where nothing is read is what the call answers; no read can fail there.
  -- For `sample` that is the status and the text.
  pub determined_unread : (s : Status) (report : Option Report) (text : List ℕ)
      → IsOwed command nothing s report text
      → IsAnswered command nothing s report text Writes ended left ⊎ IsOutage ended
  -- Status Words comes only of words that are no command.
  -- Where they are none, only a write that fails or being out of memory hides that.
  pub words : ended ≡ status.Words → command ≡ None
  pub no_command : command ≡ None → (ended ≡ status.Words) ⊎ IsOutage ended
  -- a fault is that of the object that was handed in, and where it was
  -- out of memory nothing was written
  pub read_fault : ended ≡ status.ReadFault → ReadFails
  pub write_fault : ended ≡ status.WriteFault → WriteFails
  pub no_memory : ended ≡ status.NoMemory → Untouched
  -- A command that reads no document is done, unless it is out of memory or a write fails.
  -- Of `sample` the six lines are written then.
  pub complete_unread : (c : Command) → command ≡ Some c
      → ReadsNothing (Some c) → (ended ≡ status.Done) ⊎ IsOutage ended
  pub sample : (seed : ℕ)
      → command ≡ Some (Sample seed)
      → ((ended ≡ status.Done) × Writes (six_lines seed)) ⊎ IsOutage ended

-- What a report comes with: the command, the document that was read to its end, of whose run it is,
-- and its text.
-- That text was written, and nothing else.
-- Or the number of a sample, of whose run it is, and the six lines,
-- which were written and nothing else, where nothing was read.
pub data IsReportOfCall (command : Option Command) (Reads : Read → Type 0)
    (Writes : List ℕ → Type 0) (report : Report) : Type 0 where
  of_document : (c : DocumentCommand) (document text : List ℕ)
      → command ≡ Some (Document c) → Reads (whole document)
      → IsRunOfDocument c document report text → Writes text → IsReportOfCall command Reads Writes report
  of_sample : (seed : ℕ) (text : List ℕ) → command ≡ Some (Sample seed) → Reads nothing
      → IsRunOfSample seed report text → Writes text → IsReportOfCall command Reads Writes report

-- a document is served: what is written is an outcome of it
abbrev pub IsServed : Contents → DocumentCommand → (List ℕ → Type 0) → Status → Option Report → Type 0
IsServed a c Writes s report = (text : List ℕ) × IsOutcome a c s report text × Writes text

-- what the input of these bytes may have come to in a call that reads at most so many
abbrev pub IsReadingOf : ℕ → List ℕ → Read → Type 0
IsReadingOf limit bytes nothing = ⊤
IsReadingOf limit bytes (whole got) = (got ≡ bytes) × (length bytes ≤ limit)
IsReadingOf limit bytes (above got) = limit < length bytes
IsReadingOf limit bytes (up_to_fault got) = ⊥
IsReadingOf limit bytes (some got) = ⊤

-- a sink in memory has a text behind what it had, as one write leaves it
abbrev pub HasText : KeptBytes → KeptBytes → List ℕ → Type 0
HasText old new text = (new ≡ kept_after old text) × Grows (written_of old) (written_of new) text
