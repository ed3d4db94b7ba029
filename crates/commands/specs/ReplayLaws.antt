-- A document with the text of its run behind it.
use Rattle.std.specs.Prelude.{ℕ, List, ◌++◌, length}
use Rattle.std.specs.declared.option.Option.TheVariants.{Some, None}
use Rattle.claim_core.specs.declared.report.Report.{Report}
use Rattle.shape_files.specs.declared.section_kind.Form.TheVariants as form
use Rattle.shape_files.specs.Documents.{Contents, HasContents}
use Rattle.shape_files.specs.RunTexts.{EndsLine, recorded_with}
use Rattle.document_answers.specs.Replay.{agrees_line}
use Rattle.commands.specs.declared.words.Command.TheVariants.{Document}
use Rattle.commands.specs.declared.words.DocumentCommand.{DocumentCommand}
use Rattle.commands.specs.declared.words.DocumentCommand.TheVariants.{Run, Interleave, Replay, Tickets}
use Rattle.document_answers.specs.declared.status.Status.TheVariants as status
use Rattle.commands.specs.Reads.{whole}
use Rattle.commands.specs.Outcomes.{IsOutcome}
use Rattle.commands.specs.Owed.{IsOwed}

-- what `replay` owes for the bytes: that the journal agrees, with the number of its entries
abbrev pub IsAgreed : List ℕ → Report → Type 0
IsAgreed bytes report =
    IsOwed (Some (Document Replay)) (whole bytes) status.Done None
    (agrees_line (length report.journal.entries))

-- The bytes with the text behind them are a document of Replay, which has what the bytes have,
-- and the report's entries and last world, as its version has them.
-- For it is owed that the journal agrees.
pub record IsReplayed (bytes : List ℕ) (a : Contents) (report : Report) (text : List ℕ) : Type 0 where
  pub document : HasContents form.Replay (bytes ++ text) (recorded_with a report.journal.entries report.world)
  pub agrees : IsAgreed (bytes ++ text) report

-- so it is with each text of a report of `run` for a document whose last byte is a line feed
abbrev pub RunTextsAreReplayed : Type 0
RunTextsAreReplayed =
    (bytes : List ℕ) (a : Contents) (report : Report) (text : List ℕ)
    → EndsLine bytes
    → HasContents form.Run bytes a
    → IsOutcome a Run status.Done (Some report) text
    → IsReplayed bytes a report text

-- and with each such text of `tickets`, which reads the same documents
abbrev pub TicketTextsAreReplayed : Type 0
TicketTextsAreReplayed =
    (bytes : List ℕ) (a : Contents) (report : Report) (text : List ℕ)
    → EndsLine bytes
    → HasContents form.Run bytes a
    → IsOutcome a Tickets status.Done (Some report) text
    → IsReplayed bytes a report text

-- and with each such text of `interleave`, whose documents are also documents of `run`
pub record InterleaveTextsAreReplayed : Type 0 where
  pub is_run : (bytes : List ℕ) (a : Contents)
      → HasContents form.Interleave bytes a → HasContents form.Run bytes a
  pub replayed : (bytes : List ℕ) (a : Contents) (report : Report) (text : List ℕ)
      → EndsLine bytes
      → HasContents form.Run bytes a
      → IsOutcome a Interleave status.Done (Some report) text
      → IsReplayed bytes a report text

-- so where a command on such a document is done with a report,
-- `replay` agrees on the document with what was written behind it
abbrev pub WhatIsOwedIsReplayed : Type 0
WhatIsOwedIsReplayed =
    (c : DocumentCommand) (bytes : List ℕ) (report : Report) (text : List ℕ)
    → EndsLine bytes
    → IsOwed (Some (Document c)) (whole bytes) status.Done (Some report) text
    → IsAgreed (bytes ++ text) report
