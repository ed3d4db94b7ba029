use Rattle.std.proofs.Common.{◌≡◌, ◌+◌, ℕ, length, arith, ap, sym, subst, ◌∙◌}
use Rattle.std.proofs.lemmas.Bool.{false≢true}
use Rattle.amoebot_state.proofs.Options.{err_told}
use Rattle.serial_model.specs.Replays.{IsNoStep, StepIn}
use Rattle.action_tree.specs.Trees.{Program}
use Rattle.action_meaning.specs.Verdicts.{verdict_shown}
use Rattle.document_answers.specs.Journals.{DiffersAt, at_end}
use Rattle.document_answers.proofs.ToldEntries.{told_all}
use Rattle.commands.proofs.ElectSteps.{made_more, stops_at}
use Rattle.commands.proofs.elect.make_steps.Goals as goal

pub returns-in_err-step_in-clause-differs : goal.returns-in_err-step_in-clause-differs
returns-in_err-step_in-clause-differs g c =
    let form = g.E.EntryForm.form in
    let f = verdict_shown c.args.election.now.program in
    let start = c.args.election.now.world in
    let world = c.loop-told.election.world in
    let e = c.told-item.result in
    let told = c.in_err-step_in.field-0.0 in
    let none = subst (λ (p : Program). IsNoStep form (verdict_shown p) world e) c.loop-told.invariant.program c.in_err-step_in.ensures.none in
    let at = c.in_err-step_in.ensures.place ∙ c.loop-told.invariant.steps in
    err_told c.from_residual.result (λ d. DiffersAt form f start c.args.entries.now c.args.last.now d.place) told c.from_residual.ensures.1
    (stops_at form f start c.args.entries.now world c.loop-told.told-index c.loop-told.invariant.run c.args.last.now told.place e c.loop-told-test.true c.told-item.is none at)

pub loop-told-preserved : goal.loop-told-preserved
loop-told-preserved g c =
    let form = g.E.EntryForm.form in
    let f = verdict_shown c.args.election.now.program in
    let world = c.loop-told.election.world in
    let e = c.told-item.result in
    let step = subst (λ (p : Program). StepIn form (verdict_shown p) world e c.step_in.new.self.world) c.loop-told.invariant.program c.in_ok-step_in.ensures.step in
    record {
      run = made_more form f c.args.election.now.world c.args.entries.now world c.loop-told.told-index c.loop-told.invariant.run e c.step_in.new.self.world c.loop-told-test.true c.told-item.is step;
      steps = c.in_ok-step_in.ensures.steps ∙ ap (λ (n : ℕ). n + 1) c.loop-told.invariant.steps;
      program = c.in_ok-step_in.ensures.program ∙ c.loop-told.invariant.program;
      size = c.in_ok-step_in.ensures.size ∙ c.loop-told.invariant.size;
    }

pub returns-else-same-clause-differs : goal.returns-else-same-clause-differs
returns-else-same-clause-differs g c =
    let form = g.E.EntryForm.form in
    let end : c.loop-told.told-index ≡ length c.args.entries.now = omega arith in
    at_end c.loop-told.election.world (told_all form c.args.entries.now _ c.loop-told.told-index end c.loop-told.invariant.run)
    (λ same. false≢true (sym c.if-same.false ∙ c.same.ensures.1 (c.world.ensures.same ∙ same)))
