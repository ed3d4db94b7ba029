-- What `renew` writes, and how it ends.
use Rattle.std.specs.Prelude.{◌≢◌, ◌≤◌, ◌↔◌, ℕ, List, length}
use Rattle.std.specs.declared.option.Option.TheVariants.{Some, None}
use Rattle.amoebot_state.specs.declared.verdict.Entry.{Entry}
use Rattle.shape_files.specs.declared.section_kind.Form.TheVariants as form
use Rattle.shape_files.specs.Documents.{Contents, HasContents}
use Rattle.shape_files.specs.WholeTexts.{HasBareContents}
use Rattle.document_answers.specs.Replay.{agrees_line}
use Rattle.commands.specs.declared.words.Command.TheVariants.{Document}
use Rattle.commands.specs.declared.words.DocumentCommand.{DocumentCommand}
use Rattle.commands.specs.declared.words.DocumentCommand.TheVariants.{Replay, Renew}
use Rattle.document_answers.specs.declared.status.Status.{Status}
use Rattle.document_answers.specs.declared.status.Status.TheVariants as status
use Rattle.commands.specs.Commands.{limit_for}
use Rattle.document_answers.specs.Journals.{TellsEntries}
use Rattle.commands.specs.Owed.{IsOwed}
use Rattle.commands.specs.Reads.{Read, whole}

-- what a command owes without a report
abbrev pub IsOwedFor : DocumentCommand → Read → Status → List ℕ → Type 0
IsOwedFor c read s text = IsOwed (Some (Document c)) read s None text

-- ---- what it writes

-- what the document has that is written: version 3, these entries with their old values,
-- and neither lists nor a schedule
abbrev pub renewed_contents : Contents → List Entry → Contents
renewed_contents a es =
    record a { version = 3; lists = None; schedule = None; entries = Some es; plain = None }

-- The text is a document of Replay that has what the document has, lines of the program aside,
-- but as version 3 has it.
-- Its entries are those that the document's journal tells.
-- For it is owed that the journal agrees, with their number.
pub record IsRenewed (a : Contents) (text : List ℕ) : Type 0 where
  pub entries : List Entry
  pub told : TellsEntries a entries
  pub document : HasBareContents form.Replay text (renewed_contents a entries)
  pub agrees : IsOwedFor Replay (whole text) status.Done (agrees_line (length entries))

-- A text that `replay` and `renew` read whole.
-- A longer one, which only a program of tens of millions of bytes gives, is TooLong there.
abbrev pub IsWithinReplay : List ℕ → Type 0
IsWithinReplay text = length text ≤ limit_for (Some (Document Replay))

-- so it is with each such text that `renew` writes for a document
abbrev pub RenewedIsReplayed : Type 0
RenewedIsReplayed =
    (bytes text : List ℕ) (a : Contents)
    → HasContents form.Replay bytes a
    → IsOwedFor Renew (whole bytes) status.Done text
    → IsWithinReplay text
    → IsRenewed a text

-- and to renew it again gives the same text
abbrev pub RenewedStays : Type 0
RenewedStays =
    (bytes text : List ℕ)
    → IsOwedFor Renew (whole bytes) status.Done text
    → IsWithinReplay text
    → IsOwedFor Renew (whole text) status.Done text

-- ---- how it ends

-- A command is done where `replay` is done, which is where the journal agrees.
-- With each other status it ends as `replay` does.
pub record EndsAsReplay (c : DocumentCommand) (read : Read) : Type 0 where
  pub done : ((text : List ℕ) × IsOwedFor c read status.Done text)
      ↔ ((text : List ℕ) × IsOwedFor Replay read status.Done text)
  pub other : (s : Status) (text : List ℕ) → s ≢ status.Done
      → IsOwedFor c read s text ↔ IsOwedFor Replay read s text

-- so it is with `renew`, whatever the input came to
abbrev pub RenewEndsAsReplay : Type 0
RenewEndsAsReplay = (read : Read) → EndsAsReplay Renew read
