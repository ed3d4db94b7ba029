use Rattle.std.proofs.Common.{◌≡◌, Some, ap, sym, subst, ◌∙◌}
use Rattle.shape_files.specs.Views.{contents}
use Rattle.document_answers.specs.Recorded.{HasItsJournal}
use Rattle.document_answers.proofs.AnswerLemmas.{record_of}
use Rattle.document_answers.proofs.renew.answer_renew.Goals as goal
use Rattle.document_answers.proofs.JournalAnswers.{IsRenewedText, of_full, of_plain}

pub returns-in-Full : goal.returns-in-Full
returns-in-Full c =
    let a = contents c.args.parts in
    let r = c.recorded_in-runner in
    let told = c.entries.result.now in
    let its : a.entries ≡ Some told = subst (HasItsJournal a) c.in-Full.is r.ensures.journal ∙ ap Some (sym c.entries.ensures) in
    of_full a (IsRenewedText a) (record_of a r.result r.ensures) _ told its c.renew_full.ensures

pub returns : goal.returns
returns c =
    let a = contents c.args.parts in
    let r = c.recorded_in-runner in
    let told = c.entries-in-Plain.result.now in
    let its : a.plain ≡ Some told = subst (HasItsJournal a) c.in-Plain.is r.ensures.journal ∙ ap Some (sym c.entries-in-Plain.ensures) in
    of_plain a (IsRenewedText a) (record_of a r.result r.ensures) _ told its c.renew_plain.ensures
