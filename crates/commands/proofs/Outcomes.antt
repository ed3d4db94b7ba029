-- What is owed for a document, and by whom a report is owed.
use Rattle.std.proofs.Common.{◌≡◌, ◌↔◌, ◌⊎◌, inl, inr, ℕ, List, Option, Some, refl, subst, length}
use Rattle.std.specs.Prelude.{IsSome}
use Rattle.std.proofs.lemmas.Bool.{false≢true}
use Rattle.claim_core.specs.declared.report.Report.{Report}
use Rattle.claim_core.specs.Laws.{OneListIsSerial}
use Rattle.claim_core.specs.Machine.{Setup, setup}
use Rattle.claim_core.specs.Reached.{Reached}
use Rattle.claim_core.specs.Tickets.{TicketReached}
use Rattle.claim_core.specs.TicketLaws.{TicketReachedIsReached}
use Rattle.action_meaning.specs.Verdicts.{verdict_shown}
use Rattle.text_tokens.specs.declared.refusal.Refusal.{Refusal}
use Rattle.shape_files.specs.Documents.{Contents}
use Rattle.shape_files.specs.LeastVersions.{DecidedFromEach}
use Rattle.run_sample.specs.Laws.{SampleIsFit}
use Rattle.commands.specs.declared.words.Command.TheVariants.{Document}
use Rattle.commands.specs.declared.words.DocumentCommand.{DocumentCommand}
use Rattle.document_answers.specs.declared.status.Status.{Status}
use Rattle.document_answers.specs.declared.status.Status.TheVariants as status
use Rattle.commands.specs.Commands.{IsDocumentOf, MakesTurns, NeedsWorkers, row_of}
use Rattle.document_answers.specs.Reports.{DocumentLists, report_text}
use Rattle.commands.specs.ReportLaws.{GoodStaysConnected}
use Rattle.commands.specs.Run.{IsRunReport}
use Rattle.commands.specs.Outcomes.{IsOutcome}
use Rattle.commands.specs.Owed.{usage, read_fault, longer, refused, served, shown, sampled}
use Rattle.commands.specs.Headline.{IsRunOfDocument}
use Rattle.commands.specs.Laws.{DocumentsHaveOutcomes, ReportsAreOfTurns, ReportsAreOfDocuments, ReportsAreOfSamples}
use Rattle.commands.proofs.SampleLemmas.{told_by_sample}
use Rattle.commands.proofs.OwedLemmas.{same_contents, not_both}
use Rattle.commands.proofs.OutcomeEnds.{IsEndOf, reports, writes, refuses, differs, end_of}
use Rattle.commands.proofs.TurnMakers.{nobody_works, workers_make}

pub documents_have_outcomes : DecidedFromEach → DocumentsHaveOutcomes
documents_have_outcomes documents c bytes a s report text h (refused d same r x) = absurd (not_both documents c bytes a r h x)
documents_have_outcomes documents c bytes a s report text h (served d same b t told v x is) = subst (λ (k : Contents). IsOutcome k c s report text) (same_contents documents c bytes b a x h) is

-- a command whose turns workers make has no other outcome than that it is done
done_by_workers : (c : DocumentCommand) (a : Contents) (s : Status) (report : Option Report) (text : List ℕ) → NeedsWorkers (Some (Document c)) → IsEndOf c a s report text → s ≡ status.Done
done_by_workers c a s report text worked (reports makes as_run d r good reached) = refl
done_by_workers c a s report text worked (writes none u) = refl
done_by_workers c a s report text worked (refuses none r) = absurd (nobody_works (row_of c).maker none worked)
done_by_workers c a s report text worked (differs none place) = absurd (nobody_works (row_of c).maker none worked)

pub worked_is_done : (c : DocumentCommand) (a : Contents) (s : Status) (report : Option Report) (text : List ℕ) → NeedsWorkers (Some (Document c)) → IsOutcome a c s report text → s ≡ status.Done
worked_is_done c a s report text worked is = done_by_workers c a s report text worked (end_of c a s report text is)

-- a document is served, refused by its command, or its journal differs
pub data IsServedStatus (s : Status) : Type 0 where
  done : s ≡ status.Done → IsServedStatus s
  refused_as : (r : Refusal) → s ≡ status.Refused r → IsServedStatus s
  differs_at : (place : ℕ) → s ≡ status.Differs place → IsServedStatus s

end_status : (c : DocumentCommand) (a : Contents) (s : Status) (report : Option Report) (text : List ℕ) → IsEndOf c a s report text → IsServedStatus s
end_status c a s report text (reports makes as_run d r good reached) = done refl
end_status c a s report text (writes none u) = done refl
end_status c a s report text (refuses none r) = refused_as r refl
end_status c a s report text (differs none place) = differs_at place refl

pub served_status : (c : DocumentCommand) (a : Contents) (s : Status) (report : Option Report) (text : List ℕ) → IsOutcome a c s report text → IsServedStatus s
served_status c a s report text is = end_status c a s report text (end_of c a s report text is)

-- ---- by whom a report is owed

-- an outcome has a report, which then is a done one's, exactly where the command makes turns
ends_are_of_turns : (c : DocumentCommand) (a : Contents) (s : Status) (report : Option Report) (text : List ℕ) → IsEndOf c a s report text → IsSome report ↔ ((s ≡ status.Done) × MakesTurns (Some (Document c)))
ends_are_of_turns c a s report text (reports makes as_run d r good reached) = (λ some. (refl, makes), λ both. refl)
ends_are_of_turns c a s report text (writes none u) = (λ some. absurd (false≢true some), λ both. absurd (both.1 none))
ends_are_of_turns c a s report text (refuses none r) = (λ some. absurd (false≢true some), λ both. absurd (both.1 none))
ends_are_of_turns c a s report text (differs none place) = (λ some. absurd (false≢true some), λ both. absurd (both.1 none))

pub reports_are_of_turns : ReportsAreOfTurns
reports_are_of_turns c read s report text usage = (λ some. absurd (false≢true some), λ (is, makes). cc)
reports_are_of_turns c read s report text (read_fault d got) = (λ some. absurd (false≢true some), λ (is, makes). cc)
reports_are_of_turns c read s report text (longer d got) = (λ some. absurd (false≢true some), λ (is, makes). cc)
reports_are_of_turns c read s report text (refused d bytes r x) = (λ some. absurd (false≢true some), λ (is, makes). cc)
reports_are_of_turns c read s report text (served d bytes a t told v x is) = ends_are_of_turns d a s report text (end_of d a s report text is)
reports_are_of_turns c read s report text (shown p) = (λ some. absurd (false≢true some), λ both. absurd (both.1 refl))
reports_are_of_turns c read s report text (sampled seed told v x) = (λ some. (refl, workers_make), λ both. refl)

-- a report of a document's lists, which is one of a run that an interleaving gives
module _ (stays : GoodStaysConnected) (serials : OneListIsSerial) (claimed : TicketReachedIsReached) where
  told_by_lists : (c : DocumentCommand) (bytes : List ℕ) (a : Contents) (d : DocumentLists a) (report : Report) → IsDocumentOf c bytes a → IsRunReport Reached (verdict_shown d.program) d.start d.lists report → IsRunOfDocument c bytes report (report_text a.version (length d.program.vars) report)
  told_by_lists c bytes a d report h run = record {
    contents = a;
    program = d.program;
    start = d.start;
    lists = d.lists;
    document = h;
    its_program = d.its_program;
    its_shape = d.its_shape;
    its_lists = d.its_lists;
    run = run;
    connected = stays d.program d.start d.lists report run.good;
    writes = refl;
  }

  -- steps of callers whose commits draw their places are steps of callers
  reached_either : (g : Setup) (report : Report) → Reached g report ⊎ TicketReached g report → Reached g report
  reached_either g report (inl reached) = reached
  reached_either g report (inr drawn) = claimed g report drawn

  told_by_end : (c : DocumentCommand) (bytes : List ℕ) (a : Contents) (s : Status) (report : Report) (text : List ℕ) → IsDocumentOf c bytes a → IsEndOf c a s (Some report) text → IsRunOfDocument c bytes report text
  told_by_end c bytes a s report text h (reports makes as_run d r good reached) = told_by_lists c bytes a d report h (record {
    good = good;
    reached = reached_either (setup (verdict_shown d.program) d.start d.lists) report reached;
    serial = λ few. serials (verdict_shown d.program) d.start d.lists report few good;
  })

  pub reports_are_of_documents : ReportsAreOfDocuments
  reports_are_of_documents c read s report text (served d bytes a t told v x is) = (bytes, refl, told_by_end c bytes a s report text x (end_of c a s (Some report) text is))

pub reports_are_of_samples : GoodStaysConnected → SampleIsFit → ReportsAreOfSamples
reports_are_of_samples stays fit seed read s report text (sampled same told v x) = (refl, told_by_sample stays fit seed report text x)
