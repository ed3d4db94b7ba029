-- How an outcome of a command ends: the one place that has a case for each command.
-- What other lemmas say of all outcomes follows from it.
use Rattle.std.proofs.Common.{◌≡◌, ◌⊎◌, inl, inr, ℕ, List, Option, Some, None, length, refl}
use Rattle.amoebot_state.specs.declared.verdict.Entry.{Entry}
use Rattle.amoebot_state.specs.declared.verdict.Verdict.{Verdict}
use Rattle.amoebot_state.specs.Configs.{Config}
use Rattle.amoebot_state.specs.Zones.{Shown}
use Rattle.claim_core.specs.declared.report.Report.{Report}
use Rattle.claim_core.specs.Good.{Good}
use Rattle.claim_core.specs.Machine.{setup}
use Rattle.claim_core.specs.Reached.{Reached}
use Rattle.claim_core.specs.Tickets.{TicketReached}
use Rattle.action_meaning.specs.Verdicts.{verdict_shown}
use Rattle.text_tokens.specs.declared.refusal.Refusal.{Refusal}
use Rattle.shape_files.specs.declared.section_kind.Form.TheVariants as form
use Rattle.shape_files.specs.Documents.{Contents, HasContents}
use Rattle.commands.specs.declared.words.Command.TheVariants.{Document}
use Rattle.commands.specs.declared.words.DocumentCommand.{DocumentCommand}
use Rattle.commands.specs.declared.words.DocumentCommand.TheVariants.{Run, Interleave, Replay, Check, Measure, Renew, Rewind, Rounds, Elect, Tickets}
use Rattle.document_answers.specs.declared.status.Status.{Status}
use Rattle.document_answers.specs.declared.status.Status.TheVariants as status
use Rattle.commands.specs.Commands.{IsDocumentOf, MakesTurns, no_maker, row_of}
use Rattle.document_answers.specs.Answers.{refusal_line}
use Rattle.document_answers.specs.Rewind.{no_such_place, no_place, unwound, not_unwound}
use Rattle.commands.specs.Lines.{not_erosion, bad_start}
use Rattle.document_answers.specs.Journals.{agreeing, differing, differs_line, DocumentRecord, EntriesOutcome, JournalOutcome, in_full, in_plain}
use Rattle.document_answers.specs.Reports.{DocumentLists, reported, report_text}
use Rattle.document_answers.specs.Texts.{TextOutcome, written}
use Rattle.commands.specs.Elect.{no_erosion, not_ready, begun}
use Rattle.commands.specs.Outcomes.{IsOutcome}
use Rattle.commands.proofs.Interleaved.{interleaves_are_runs}
use Rattle.commands.proofs.TurnMakers.{workers_make, tickets_make, the_schedule_makes}

pub data IsEndOf (c : DocumentCommand) (a : Contents) : Status → Option Report → List ℕ → Type 0 where
  -- a command that makes turns reads documents of `run`, and is done with a good report of their lists
  reports : MakesTurns (Some (Document c))
      → ((bytes : List ℕ) → IsDocumentOf c bytes a → HasContents form.Run bytes a)
      → (d : DocumentLists a) (report : Report)
      → Good (verdict_shown d.program) d.start d.lists report
      → Reached (setup (verdict_shown d.program) d.start d.lists) report ⊎ TicketReached (setup (verdict_shown d.program) d.start d.lists) report
      → IsEndOf c a status.Done (Some report) (report_text a.version (length d.program.vars) report)
  -- another is done with a text alone, refuses the document, or says where its journal differs
  writes : (row_of c).maker ≡ no_maker → (text : List ℕ) → IsEndOf c a status.Done None text
  refuses : (row_of c).maker ≡ no_maker → (r : Refusal) → IsEndOf c a (status.Refused r) None (refusal_line r)
  differs : (row_of c).maker ≡ no_maker → (place : ℕ) → IsEndOf c a (status.Differs place) None (differs_line place)

module _ (c : DocumentCommand) (a : Contents) (none : (row_of c).maker ≡ no_maker) where
  of_entries : {E : Type 0} {told_as : Entry → E} {f : Shown → Verdict} {start : Config} {told : List E} {final : Config} {IsText : List Entry → List ℕ → Type 0} (s : Status) (report : Option Report) (text : List ℕ)
      → EntriesOutcome told_as f start told final IsText s report text → IsEndOf c a s report text
  of_entries s report text (agreeing es u tells run is) = writes none u
  of_entries s report text (differing place at) = differs none place

  of_journal : {d : DocumentRecord a} {IsText : List Entry → List ℕ → Type 0} (s : Status) (report : Option Report) (text : List ℕ) → JournalOutcome a d IsText s report text → IsEndOf c a s report text
  of_journal s report text (in_full es its is) = of_entries s report text is
  of_journal s report text (in_plain ps its is) = of_entries s report text is

  of_text : {IsText : List ℕ → Type 0} (s : Status) (report : Option Report) (text : List ℕ) → TextOutcome IsText s report text → IsEndOf c a s report text
  of_text s report text (written u is) = writes none u

pub end_of : (c : DocumentCommand) (a : Contents) (s : Status) (report : Option Report) (text : List ℕ) → IsOutcome a c s report text → IsEndOf c a s report text
end_of Run a s report text (reported d r run) = reports workers_make (λ bytes h. h) d r run.good (inl run.reached)
end_of Interleave a s report text (reported d r (schedule, its_schedule, run)) = reports the_schedule_makes (λ bytes h. interleaves_are_runs bytes a h) d r run.good (inl run.reached)
end_of Replay a s report text (d, x) = of_journal Replay a refl s report text x
end_of Check a s report text is = of_text Check a refl s report text is
end_of Measure a s report text is = of_text Measure a refl s report text is
end_of Renew a s report text (d, x) = of_journal Renew a refl s report text x
end_of (Rewind place) a s report text (no_place d es its above) = refuses refl no_such_place
end_of (Rewind place) a s report text (unwound d es world its within is) = writes refl _
end_of (Rewind place) a s report text (not_unwound d es k its within is) = differs refl k
end_of Rounds a s report text (d, x) = of_journal Rounds a refl s report text x
end_of Elect a s report text (no_erosion d other) = refuses refl not_erosion
end_of Elect a s report text (not_ready d is other) = refuses refl bad_start
end_of Elect a s report text (begun d t told u is ready x) = of_journal Elect a refl s report text x
end_of Tickets a s report text (reported d r run) = reports tickets_make (λ bytes h. h) d r run.good (inr run.reached)
