-- One task is to be done.
use Rattle.std.proofs.Common.{◌≡◌, ◌≢◌, inl, inr, ℕ, List, [], Option, Some, None, ap, sym, subst, refl, ◌∙◌}
use Rattle.claim_core.specs.declared.report.Report.{Report}
use Rattle.claim_core.specs.Turns.{CallerLists}
use Rattle.claim_core.proofs.Places.{one_at}
use Rattle.action_tree.specs.Trees.{Program}
use Rattle.action_meaning.specs.Verdicts.{verdict_shown}
use Rattle.shape_files.specs.Documents.{Contents}
use Rattle.shape_files.specs.LeastVersions.{DecidedFromEach}
use Rattle.run_sample.specs.Laws.{SampleIsUnique}
use Rattle.commands.specs.ReportLaws.{SampleTextIsOne}
use Rattle.document_answers.specs.Journals.{differs_line}
use Rattle.commands.specs.declared.words.Command.{Command}
use Rattle.commands.specs.declared.words.Command.TheVariants.{Document}
use Rattle.commands.specs.declared.words.DocumentCommand.{DocumentCommand}
use Rattle.document_answers.specs.declared.answer.Answer.{Answer}
use Rattle.commands.specs.declared.prepared.Maker.{Maker}
use Rattle.commands.specs.declared.prepared.Maker.TheVariants as maker
use Rattle.commands.specs.declared.prepared.Prepared.{Prepared}
use Rattle.commands.specs.declared.tasks.Task.TheVariants as task
use Rattle.commands.specs.declared.prepared.Telling.{Telling}
use Rattle.commands.specs.declared.prepared.Telling.TheVariants as telling
use Rattle.document_answers.specs.declared.status.Status.{Status}
use Rattle.document_answers.specs.declared.status.Status.TheVariants as status
use Rattle.commands.specs.Commands.{NeedsWorkers, maker_of, row_of}
use Rattle.commands.specs.Lines.{usage_line, read_fault_line}
use Rattle.document_answers.specs.Answers.{refusal_line}
use Rattle.commands.specs.Reads.{Read, whole}
use Rattle.commands.specs.Owed.{IsOwed, usage, read_fault, longer, refused, served, shown, sampled}
use Rattle.commands.specs.Tasks.{IsRunFor, IsTaskOf, Tells, of_document, of_number, turn_maker}
use Rattle.commands.specs.Laws.{SameIfAny, SameTask, OwedIsOne, PreparedIsOne, TaskIsOne, TellingIsOne}
use Rattle.commands.proofs.Outcomes.{documents_have_outcomes, worked_is_done}
use Rattle.commands.proofs.OwedLemmas.{same_contents}
use Rattle.commands.proofs.OutcomeEnds.{IsEndOf, reports, writes, refuses, differs, end_of}
use Rattle.commands.proofs.TurnMakers.{works_or_not}

-- the line that comes with a status other than Done
abbrev line_of : Status → List ℕ
line_of status.Done = []
line_of status.Words = usage_line
line_of (status.Refused r) = refusal_line r
line_of status.ReadFault = read_fault_line
line_of status.WriteFault = []
line_of status.NoMemory = []
line_of (status.Differs place) = differs_line place

-- and no report comes with it
abbrev IsLine : Status → Option Report → List ℕ → Type 0
IsLine s report text = s ≢ status.Done → (report ≡ None) × (text ≡ line_of s)

unserved : (c : DocumentCommand) (a : Contents) (s : Status) (report : Option Report) (text : List ℕ) → IsEndOf c a s report text → IsLine s report text
unserved c a s report text (reports makes as_run d r good reached) other = absurd (other refl)
unserved c a s report text (writes none u) other = absurd (other refl)
unserved c a s report text (refuses none r) other = (refl, refl)
unserved c a s report text (differs none place) other = (refl, refl)

untold : (c : Option Command) (read : Read) (s : Status) (report : Option Report) (text : List ℕ) → IsOwed c read s report text → s ≢ status.Done → (report ≡ None) × (text ≡ line_of s)
untold c read s report text usage other = (refl, refl)
untold c read s report text (read_fault d got) other = (refl, refl)
untold c read s report text (longer d got) other = (refl, refl)
untold c read s report text (refused d bytes r x) other = (refl, refl)
untold c read s report text (served d bytes a t told v x is) other = unserved d a s report text (end_of d a s report text is) other
untold c read s report text (shown p) other = absurd (other refl)
untold c read s report text (sampled seed told v x) other = absurd (other refl)

-- turns that are prepared are for workers
needs_workers : (c : Option Command) (m : Maker) → maker_of c ≡ turn_maker m → NeedsWorkers c
needs_workers c maker.Workers its = inl its
needs_workers c maker.Tickets its = inr its

module _ (documents : DecidedFromEach) (owed : OwedIsOne) where
  -- what is answered of a command that needs workers is not Done, so it has no report
  none_done : (c : DocumentCommand) (bytes : List ℕ) (one two : Answer) → NeedsWorkers (Some (Document c)) → IsTaskOf c bytes (task.Answered one) → IsTaskOf c bytes (task.Answered two) → SameTask (task.Answered one) (task.Answered two)
  none_done c bytes one two needs x y =
      let first = untold (Some (Document c)) (whole bytes) one.status one.report one.text x.0 (x.1 needs) in
      let second = untold (Some (Document c)) (whole bytes) two.status two.report two.text y.0 (y.1 needs) in
      let same = (owed (Some (Document c)) (whole bytes) one.status two.status one.report two.report one.text two.text x.0 y.0).status in
      (same, subst (λ (z : Option Report × Option Report). SameIfAny z.0 z.1) (λ i. (sym first.0 i, sym second.0 i)) tt, first.1 ∙ ap line_of same ∙ sym second.1)

  -- what is answered of another command is one
  answered_once : (c : DocumentCommand) (bytes : List ℕ) (one two : Answer) → (NeedsWorkers (Some (Document c)) → ⊥) → IsTaskOf c bytes (task.Answered one) → IsTaskOf c bytes (task.Answered two) → SameTask (task.Answered one) (task.Answered two)
  answered_once c bytes one two free x y =
      let same = owed (Some (Document c)) (whole bytes) one.status two.status one.report two.report one.text two.text x.0 y.0 in
      (same.status, same.report (λ needs. absurd (free needs)), same.text (λ needs. absurd (free needs)))

  both_answered : (c : DocumentCommand) (bytes : List ℕ) (one two : Answer) → IsTaskOf c bytes (task.Answered one) → IsTaskOf c bytes (task.Answered two) → SameTask (task.Answered one) (task.Answered two)
  both_answered c bytes one two x y = elim (works_or_not (row_of c).maker) [
    | inl needs ↦ none_done c bytes one two needs x y
    | inr free ↦ answered_once c bytes one two free x y
  ]

  -- for a document whose lists workers are to run nothing but Done is an outcome
  not_answered : (c : DocumentCommand) (bytes : List ℕ) (answer : Answer) (run : Prepared) → IsTaskOf c bytes (task.Answered answer) → NeedsWorkers (Some (Document c)) → IsRunFor run (Some (Document c)) (whole bytes) → ⊥
  not_answered c bytes answer run x worked (of_document d same a h its_program its_shape its_lists its_telling its_maker) =
      x.1 worked (worked_is_done c a answer.status answer.report answer.text worked (documents_have_outcomes documents c bytes a answer.status answer.report answer.text h x.0))

  both_run : (c : DocumentCommand) (bytes : List ℕ) (one two : Prepared) → IsRunFor one (Some (Document c)) (whole bytes) → IsRunFor two (Some (Document c)) (whole bytes) → one ≡ two
  both_run c bytes one two (of_document d same a h its_program its_shape its_lists its_telling its_maker) (of_document e equal b k other_program other_shape other_lists other_telling other_maker) =
      let contents : b ≡ a = same_contents documents c bytes b a k h in
      let program = one_at _ one.runner two.runner its_program (ap (λ (x : Contents). x.checked) (sym contents) ∙ other_program) in
      let shape = one_at _ one.world two.world its_shape (ap (λ (x : Contents). x.world) (sym contents) ∙ other_shape) in
      let lists = one_at _ one.lists two.lists its_lists (ap (λ (x : Contents). x.lists) (sym contents) ∙ other_lists) in
      let telling = its_telling ∙ ap (λ (x : Contents). telling.Report x.version) (sym contents) ∙ sym other_telling in
      let maker = its_maker ∙ sym other_maker in
      λ i. record { runner = program i; world = shape i; lists = lists i; telling = telling i; maker = maker i }

  pub task_is_one : TaskIsOne
  task_is_one c bytes (task.Answered one) (task.Answered two) x y = both_answered c bytes one two x y
  task_is_one c bytes (task.Answered one) (task.Run two) x y = not_answered c bytes one two x (needs_workers (Some (Document c)) two.maker y.its_maker) y.its_lists
  task_is_one c bytes (task.Run one) (task.Answered two) x y = not_answered c bytes two one y (needs_workers (Some (Document c)) one.maker x.its_maker) x.its_lists
  task_is_one c bytes (task.Run one) (task.Run two) x y = both_run c bytes one two x.its_lists y.its_lists

-- ---- runs that are prepared, and the texts of their reports

pub prepared_is_one : DecidedFromEach → SampleIsUnique → PreparedIsOne
prepared_is_one documents unique command read one two (of_document c bytes a h its_program its_shape its_lists its_telling its_maker) (of_document e same b k other_program other_shape other_lists other_telling other_maker) =
    let contents : b ≡ a = same_contents documents c bytes b a k h in
    let program = one_at _ one.runner two.runner its_program (ap (λ (x : Contents). x.checked) (sym contents) ∙ other_program) in
    let shape = one_at _ one.world two.world its_shape (ap (λ (x : Contents). x.world) (sym contents) ∙ other_shape) in
    let lists = one_at _ one.lists two.lists its_lists (ap (λ (x : Contents). x.lists) (sym contents) ∙ other_lists) in
    let telling = its_telling ∙ ap (λ (x : Contents). telling.Report x.version) (sym contents) ∙ sym other_telling in
    let maker = its_maker ∙ sym other_maker in
    λ i. record { runner = program i; world = shape i; lists = lists i; telling = telling i; maker = maker i }
prepared_is_one documents unique command read one two (of_number seed is its_telling its_maker) (of_number same other other_telling other_maker) =
    let by = unique seed _ _ is other in
    let telling = its_telling ∙ sym other_telling in
    let maker = its_maker ∙ sym other_maker in
    λ i. record { runner = by.0 i; world = by.1 i; lists = by.2 i; telling = telling i; maker = maker i }

-- two texts of a report
one_text : SampleTextIsOne → (t : Telling) (p : Program) (lists : CallerLists) (report : Report) (text other : List ℕ) → Tells t p lists report text → Tells t p lists report other → text ≡ other
one_text law (telling.Report version) p lists report text other x y = x ∙ sym y
one_text law (telling.Sample seed) p lists report text other x y = law (verdict_shown p) report.journal.first lists seed report text other x y

pub telling_is_one : SampleTextIsOne → TellingIsOne
telling_is_one law t p lists report one two x y =
    let s = x.done ∙ sym y.done in
    let r = x.its_report ∙ sym y.its_report in
    let text = one_text law t p lists report one.text two.text x.text y.text in
    λ i. record { status = s i; report = r i; text = text i }
