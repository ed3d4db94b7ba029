-- How a command may end for a document of its form: its status, its report if it has one,
-- and its text.
use Rattle.std.specs.Prelude.{ℕ, List}
use Rattle.std.specs.declared.option.Option.{Option}
use Rattle.claim_core.specs.declared.report.Report.{Report}
use Rattle.shape_files.specs.Documents.{Contents}
use Rattle.commands.specs.declared.words.DocumentCommand.{DocumentCommand}
use Rattle.commands.specs.declared.words.DocumentCommand.TheVariants.{Run, Interleave, Replay, Check, Measure, Renew, Rewind, Rounds, Elect, Tickets}
use Rattle.document_answers.specs.declared.status.Status.{Status}
use Rattle.commands.specs.Run.{RunOutcome}
use Rattle.document_answers.specs.Interleave.{InterleaveOutcome}
use Rattle.document_answers.specs.Replay.{ReplayOutcome}
use Rattle.document_answers.specs.Check.{CheckOutcome}
use Rattle.document_answers.specs.Measure.{MeasureOutcome}
use Rattle.document_answers.specs.Renew.{RenewOutcome}
use Rattle.document_answers.specs.Rewind.{RewindOutcome}
use Rattle.document_answers.specs.Rounds.{RoundsOutcome}
use Rattle.commands.specs.Elect.{ElectOutcome}
use Rattle.commands.specs.Tickets.{TicketsOutcome}

abbrev pub IsOutcome : Contents → DocumentCommand → Status → Option Report → List ℕ → Type 0
IsOutcome a Run = RunOutcome a
IsOutcome a Interleave = InterleaveOutcome a
IsOutcome a Replay = ReplayOutcome a
IsOutcome a Check = CheckOutcome a
IsOutcome a Measure = MeasureOutcome a
IsOutcome a Renew = RenewOutcome a
IsOutcome a (Rewind place) = RewindOutcome a place
IsOutcome a Rounds = RoundsOutcome a
IsOutcome a Elect = ElectOutcome a
IsOutcome a Tickets = TicketsOutcome a
