use Rattle.std.proofs.Common.{refl, subst, ◌≡◌, ℕ, List}
use Rattle.amoebot_state.specs.Configs.{Config}
use Rattle.action_eval.proofs.SharedRunner.{runner_sync}
use Rattle.action_meaning.specs.Verdicts.{verdict_shown}
use Rattle.serial_model.specs.Forms.{full_entry}
use Rattle.serial_model.proofs.Runs.{full_entries, full_is_itself}
use Rattle.document_answers.specs.Journals.{AgreesIn, DiffersAt, agreeing, differing, EntriesOutcome}
use Rattle.document_answers.proofs.renew.renew_full.Goals as goal
use Rattle.document_answers.proofs.AnswerLemmas.{ok_answers}
use Rattle.document_answers.specs.Renew.{renewed_text}
use Rattle.amoebot_state.specs.declared.verdict.Entry.{Entry}

pub compare-requires-sync-D : goal.compare-requires-sync-D
compare-requires-sync-D c κs = record { shared = runner_sync.shared }

pub returns-in-Ok : goal.returns-in-Ok
returns-in-Ok c =
    let f = verdict_shown c.args.runner.now in
    let es = c.args.entries.now in
    let agrees = subst (λ (w : Config). AgreesIn full_entry f w es c.args.last.now) c.in_ok-taken.ensures c.in-Ok.ensures.agrees in
    let run = (full_is_itself.run f c.args.start.now c.args.last.now es).0 agrees in
    let IsText = λ (xs : List Entry) (text : List ℕ). text ≡ renewed_text c.args.runner.now c.args.start.now xs c.args.last.now in
    let Ends = EntriesOutcome full_entry (verdict_shown c.args.runner.now) c.args.start.now c.args.entries.now c.args.last.now IsText in
    ok_answers Ends _ _ (agreeing es _ (full_entries es) run refl) c.renew.ensures

pub returns-in-Err : goal.returns-in-Err
returns-in-Err c =
    let place = c.in-Err.differs.place in
    let differs = subst (λ (w : Config). DiffersAt full_entry (verdict_shown c.args.runner.now) w c.args.entries.now c.args.last.now place) c.in_ok-taken.ensures c.in-Err.ensures.differs in
    let IsText = λ (xs : List Entry) (text : List ℕ). text ≡ renewed_text c.args.runner.now c.args.start.now xs c.args.last.now in
    let Ends = EntriesOutcome full_entry (verdict_shown c.args.runner.now) c.args.start.now c.args.entries.now c.args.last.now IsText in
    ok_answers Ends _ _ (differing place differs) c.differ.ensures
