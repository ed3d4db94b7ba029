use Rattle.action_eval.proofs.SharedRunner.{runner_sync}
use Rattle.document_answers.proofs.rounds.tell_count.Goals as goal
use Rattle.document_answers.specs.Journals.{agreeing, differing, EntriesOutcome}
use Rattle.document_answers.proofs.AnswerLemmas.{answers, ok_answers}
use Rattle.document_answers.specs.Rounds.{IsRoundsText}
use Rattle.action_meaning.specs.Verdicts.{verdict_shown}

pub count_rounds-requires-sync-D : goal.count_rounds-requires-sync-D
count_rounds-requires-sync-D g c κs outlives = record { shared = runner_sync.shared }

pub returns-in_ok-text-in-Ok : goal.returns-in_ok-text-in-Ok
returns-in_ok-text-in-Ok g c =
    let n = c.in-Ok.count in
    let found = rw c.in-Ok.is at c.in_ok-count.ensures in
    answers (EntriesOutcome g.E.EntryForm.form (verdict_shown c.args.runner.now) c.args.start c.args.entries.now c.args.last.now (IsRoundsText (verdict_shown c.args.runner.now) c.args.start)) _ _ c.done.ensures (agreeing found.source c.in_ok-text-in-Ok.text found.tells found.holds.agrees (record { rounds = n.rounds; waiting = n.waiting; counted = found.holds.counted; whole = c.in_ok-text-in-Ok.ensures }))

pub returns-in-Err : goal.returns-in-Err
returns-in-Err g c =
    let found = rw c.in-Err.is at c.in_ok-count.ensures in
    ok_answers (EntriesOutcome g.E.EntryForm.form (verdict_shown c.args.runner.now) c.args.start c.args.entries.now c.args.last.now (IsRoundsText (verdict_shown c.args.runner.now) c.args.start)) _ _ (differing c.in-Err.differs.place found) c.differ.ensures
