use Rattle.std.proofs.Common.{ap, sym, length, ◌∙◌}
use Rattle.std.proofs.lemmas.List.{length-map}
use Rattle.action_eval.proofs.SharedRunner.{runner_sync}
use Rattle.document_answers.specs.Journals.{EntriesOutcome, agreeing, differing}
use Rattle.document_answers.specs.Replay.{agrees_line}
use Rattle.document_answers.proofs.AnswerLemmas.{ok_answers}
use Rattle.document_answers.proofs.JournalAnswers.{IsAgreesLine}
use Rattle.action_meaning.specs.Verdicts.{verdict_shown}
use Rattle.document_answers.proofs.replay.tell_run.Goals as goal

pub compare-requires-sync-D : goal.compare-requires-sync-D
compare-requires-sync-D g c κs outlives = record { shared = runner_sync.shared }

pub returns-in-Ok : goal.returns-in-Ok
returns-in-Ok g c =
    let form = g.E.EntryForm.form in
    let by = c.in-Ok.ensures.agrees in
    let many = ap length (sym by.tells) ∙ length-map by.source form in
    ok_answers (EntriesOutcome form (verdict_shown c.args.runner.now) c.args.start c.args.entries.now c.args.last.now IsAgreesLine) _ _ (agreeing by.source _ by.tells by.holds (ap agrees_line many)) c.agree.ensures

pub returns-in-Err : goal.returns-in-Err
returns-in-Err g c =
    ok_answers (EntriesOutcome g.E.EntryForm.form (verdict_shown c.args.runner.now) c.args.start c.args.entries.now c.args.last.now IsAgreesLine) _ _ (differing c.in-Err.differs.place c.in-Err.ensures.differs) c.differ.ensures
