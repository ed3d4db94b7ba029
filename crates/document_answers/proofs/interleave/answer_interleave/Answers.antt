use Rattle.std.proofs.Common.{◌≡◌, ℕ, List, Some, length, ap, sym, ◌∙◌}
use Rattle.action_tree.specs.Trees.{Program}
use Rattle.action_meaning.specs.Verdicts.{verdict_shown}
use Rattle.action_eval.proofs.SharedRunner.{runner_sync}
use Rattle.shape_files.specs.Views.{contents}
use Rattle.document_answers.specs.Interleave.{InterleaveOutcome, IsInterleaveReport}
use Rattle.document_answers.specs.Reports.{DocumentLists, reported}
use Rattle.document_answers.proofs.AnswerLemmas.{ok_answers}
use Rattle.document_answers.proofs.ReportTexts.{with_report_of}
use Rattle.document_answers.proofs.interleave.answer_interleave.Goals as goal

pub run_interleaved-requires-sync-D : goal.run_interleaved-requires-sync-D
run_interleaved-requires-sync-D c κs = record { shared = runner_sync.shared }

pub returns : goal.returns
returns c =
    let a = contents c.args.parts in
    let report = c.in_ok-report.report in
    let vars = c.vars-vars.ensures ∙ ap (λ (p : Program). length p.vars) (sym c.new-runner.ensures) in
    let lists : DocumentLists a = record {
      program = c.new-runner.result;
      start = c.unwrap.result;
      lists = c.unwrap-lists.result;
      its_program = c.unwrap-checked.ensures ∙ ap Some (sym c.new-runner.ensures);
      its_shape = c.unwrap.ensures;
      its_lists = c.unwrap-lists.ensures;
    } in
    let its : (schedule : List ℕ) × (a.schedule ≡ Some schedule) × IsInterleaveReport (verdict_shown lists.program) lists.start lists.lists schedule report =
    (c.unwrap-schedule.result, c.unwrap-schedule.ensures, c.in_ok-report.ensures) in
    ok_answers (InterleaveOutcome a) _ _ (reported lists report its) (with_report_of a.version _ _ report _ vars c.answer_report.ensures)
