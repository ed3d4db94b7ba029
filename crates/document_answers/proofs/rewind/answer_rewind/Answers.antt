use Rattle.std.proofs.Common.{Some, ap, sym, ◌∙◌, arith}
use Rattle.action_eval.proofs.SharedRunner.{runner_sync}
use Rattle.shape_files.specs.Views.{contents}
use Rattle.document_answers.specs.Rewind.{RewindOutcome, no_place, not_unwound, unwound}
use Rattle.document_answers.proofs.AnswerLemmas.{ok_answers, record_of, refused_with}
use Rattle.document_answers.proofs.rewind.answer_rewind.Goals as goal

pub unwind-requires-sync-D : goal.unwind-requires-sync-D
unwind-requires-sync-D c κs = record { shared = runner_sync.shared }

pub returns-then-place-entries : goal.returns-then-place-entries
returns-then-place-entries c =
    let a = contents c.args.parts in
    let r = c.recorded_in-runner in
    let its_journal = r.ensures.entries ∙ sym c.full.ensures ∙ c.unwrap-full.ensures ∙ ap Some (sym c.entries-entries.ensures) in
    ok_answers (RewindOutcome a c.args.place) _ _ (no_place (record_of a r.result r.ensures) c.entries-entries.result.now its_journal (omega arith)) (refused_with _ _ _ c.bad_place.ensures c.refuse.ensures)

pub returns-in-Ok : goal.returns-in-Ok
returns-in-Ok c =
    let a = contents c.args.parts in
    let r = c.recorded_in-runner in
    let its_journal = r.ensures.entries ∙ sym c.full.ensures ∙ c.unwrap-full.ensures ∙ ap Some (sym c.entries-entries.ensures) in
    ok_answers (RewindOutcome a c.args.place) _ _ (unwound (record_of a r.result r.ensures) c.entries-entries.result.now c.in-Ok.shape its_journal (omega arith) c.in-Ok.ensures.back) c.show_shape.ensures

pub returns : goal.returns
returns c =
    let a = contents c.args.parts in
    let r = c.recorded_in-runner in
    let its_journal = r.ensures.entries ∙ sym c.full.ensures ∙ c.unwrap-full.ensures ∙ ap Some (sym c.entries-entries.ensures) in
    ok_answers (RewindOutcome a c.args.place) _ _ (not_unwound (record_of a r.result r.ensures) c.entries-entries.result.now c.in-Err.differs.place its_journal (omega arith) c.in-Err.ensures.differs) c.differ.ensures
