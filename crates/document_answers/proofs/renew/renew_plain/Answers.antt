use Rattle.std.proofs.Common.{◌≡◌, List, map, refl, subst, sym, ℕ}
use Rattle.amoebot_state.specs.declared.verdict.Entry.{Entry}
use Rattle.amoebot_state.specs.Configs.{Config}
use Rattle.amoebot_state.specs.Steps.{plain_entry}
use Rattle.action_eval.proofs.SharedRunner.{runner_sync}
use Rattle.action_meaning.specs.Verdicts.{verdict_shown}
use Rattle.document_answers.specs.Journals.{Agrees, DiffersAt, agreeing, differing, EntriesOutcome}
use Rattle.document_answers.proofs.renew.renew_plain.Goals as goal
use Rattle.document_answers.proofs.AnswerLemmas.{ok_answers}
use Rattle.document_answers.specs.Renew.{renewed_text}

pub follow_all-requires-sync-D : goal.follow_all-requires-sync-D
follow_all-requires-sync-D c κs = record { shared = runner_sync.shared }

pub returns-in-Ok : goal.returns-in-Ok
returns-in-Ok c =
    let f = verdict_shown c.args.runner.now in
    let found = rw c.in-Ok.is at c.in_ok-followed.ensures in
    let facts = subst (λ (es : List Entry). (map plain_entry es ≡ c.args.entries.now) × Agrees f c.in_ok-taken.taken es c.args.last.now) (sym c.as_slice.ensures.value) found in
    let run = subst (λ (w : Config). Agrees f w c.as_slice.result.now c.args.last.now) c.in_ok-taken.ensures facts.1 in
    let IsText = λ (xs : List Entry) (text : List ℕ). text ≡ renewed_text c.args.runner.now c.args.start.now xs c.args.last.now in
    let Ends = EntriesOutcome plain_entry (verdict_shown c.args.runner.now) c.args.start.now c.args.entries.now c.args.last.now IsText in
    ok_answers Ends _ _ (agreeing c.as_slice.result.now _ facts.0 run refl) c.renew.ensures

pub returns-in-Err : goal.returns-in-Err
returns-in-Err c =
    let place = c.in-Err.differs.place in
    let found = rw c.in-Err.is at c.in_ok-followed.ensures in
    let differs = subst (λ (w : Config). DiffersAt plain_entry (verdict_shown c.args.runner.now) w c.args.entries.now c.args.last.now place) c.in_ok-taken.ensures found in
    let IsText = λ (xs : List Entry) (text : List ℕ). text ≡ renewed_text c.args.runner.now c.args.start.now xs c.args.last.now in
    let Ends = EntriesOutcome plain_entry (verdict_shown c.args.runner.now) c.args.start.now c.args.entries.now c.args.last.now IsText in
    ok_answers Ends _ _ (differing place differs) c.differ.ensures
