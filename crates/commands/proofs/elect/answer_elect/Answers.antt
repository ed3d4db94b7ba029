use Rattle.std.proofs.Common.{◌≡◌, ◌<◌, List, Some, length, ap, sym, subst, ◌∙◌}
use Rattle.amoebot_state.specs.declared.verdict.PlainEntry.{PlainEntry}
use Rattle.std.specs.List.{All}
use Rattle.std.proofs.lemmas.Bool.{false≢true}
use Rattle.std.proofs.lemmas.Result.{IfOk-weaker}
use Rattle.amoebot_state.specs.Configs.{Config}
use Rattle.election_law.specs.Elections.{IsErosion}
use Rattle.election_law.specs.States.{ElectionState}
use Rattle.shape_files.specs.Views.{contents}
use Rattle.document_answers.specs.Recorded.{HasItsJournal, IsOfBots}
use Rattle.document_answers.proofs.AnswerLemmas.{ok_answers, record_of, refused_with}
use Rattle.commands.proofs.elect.answer_elect.Goals as goal
use Rattle.amoebot_state.specs.Steps.{plain_entry}
use Rattle.serial_model.specs.Forms.{full_entry}
use Rattle.commands.specs.Elect.{ElectOutcome, begun, no_erosion}
use Rattle.document_answers.specs.Journals.{in_full, in_plain}
use Rattle.commands.proofs.ElectLemmas.{of_began, refused_start}

pub returns-then-not-is_erosion : goal.returns-then-not-is_erosion
returns-then-not-is_erosion c =
    let r = c.recorded_in-runner in
    let other = λ (erodes : IsErosion r.result.0). false≢true (sym c.if-not-is_erosion.true ∙ c.is_erosion.ensures.1 (subst IsErosion (sym (c.program.ensures.program ∙ c.checked.ensures)) erodes)) in
    let a = contents c.args.parts in
    ok_answers (ElectOutcome a) _ _ (no_erosion (record_of a r.result r.ensures) other) (refused_with _ _ _ c.whole_document.ensures c.refuse.ensures)

pub elect-requires-in-Plain-clause-there : goal.elect-requires-in-Plain-clause-there
elect-requires-in-Plain-clause-there c =
    let bots = subst (IsOfBots (length c.recorded_in-runner.result.1.bots)) c.in-Plain.is c.recorded_in-runner.ensures.bots in
    let world = sym (ap (λ (e : ElectionState). e.world) c.in-Ok.ensures.open) in
    subst (λ (z : List PlainEntry × Config). All (λ (p : PlainEntry). p.bot < length z.1.bots) z.0) (λ i. (sym c.entries-in-Plain.ensures i, world i)) bots.0

pub returns-in-Full : goal.returns-in-Full
returns-in-Full c =
    let a = contents c.args.parts in
    let r = c.recorded_in-runner in
    let d = record_of a r.result r.ensures in
    let erodes = subst IsErosion (c.program.ensures.program ∙ c.checked.ensures) (c.is_erosion.ensures.0 c.if-not-is_erosion.false) in
    let told = c.entries.result.now in
    let its : a.entries ≡ Some told = subst (HasItsJournal a) c.in-Full.is r.ensures.journal ∙ ap Some (sym c.entries.ensures) in
    IfOk-weaker _ _ _ (λ answer by. begun d answer.status answer.report answer.text erodes c.in-Ok.ensures.ready
    (in_full told its (of_began full_entry d.program d.start told d.final answer c.in-Ok.election c.in-Ok.ensures.open by))) c.elect.ensures

pub returns-in-Ok : goal.returns-in-Ok
returns-in-Ok c =
    let a = contents c.args.parts in
    let r = c.recorded_in-runner in
    let d = record_of a r.result r.ensures in
    let erodes = subst IsErosion (c.program.ensures.program ∙ c.checked.ensures) (c.is_erosion.ensures.0 c.if-not-is_erosion.false) in
    let told = c.entries-in-Plain.result.now in
    let its : a.plain ≡ Some told = subst (HasItsJournal a) c.in-Plain.is r.ensures.journal ∙ ap Some (sym c.entries-in-Plain.ensures) in
    IfOk-weaker _ _ _ (λ answer by. begun d answer.status answer.report answer.text erodes c.in-Ok.ensures.ready
    (in_plain told its (of_began plain_entry d.program d.start told d.final answer c.in-Ok.election c.in-Ok.ensures.open by))) c.elect-in-Plain.ensures

pub returns : goal.returns
returns c =
    let a = contents c.args.parts in
    let r = c.recorded_in-runner in
    let erodes = subst IsErosion (c.program.ensures.program ∙ c.checked.ensures) (c.is_erosion.ensures.0 c.if-not-is_erosion.false) in
    IfOk-weaker _ _ _ (λ answer is. refused_start a (record_of a r.result r.ensures) answer erodes c.start_laws.ensures.ready c.in-Err.refusal c.in-Err.ensures.refused is) c.refuse_start.ensures
