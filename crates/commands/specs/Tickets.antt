-- The command `tickets`: a report of turns that workers make, whose commits draw their places.
use Rattle.std.specs.Prelude.{ℕ, List}
use Rattle.std.specs.declared.option.Option.{Option}
use Rattle.claim_core.specs.declared.report.Report.{Report}
use Rattle.claim_core.specs.Tickets.{TicketReached}
use Rattle.action_meaning.specs.Verdicts.{verdict_shown}
use Rattle.shape_files.specs.Documents.{Contents}
use Rattle.document_answers.specs.declared.status.Status.{Status}
use Rattle.document_answers.specs.Reports.{DocumentLists, ReportOutcome}
use Rattle.commands.specs.Run.{IsRunReport}

-- the report is one of a run of the document's lists, which steps of callers give
-- whose commits draw their places
abbrev pub TicketsOutcome : Contents → Status → Option Report → List ℕ → Type 0
TicketsOutcome a =
    ReportOutcome a (λ (d : DocumentLists a) (report : Report).
    IsRunReport TicketReached (verdict_shown d.program) d.start d.lists report)
