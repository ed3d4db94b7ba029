use Rattle.std.proofs.Common.{◌<◌, ◌++◌, [], ◌∷◌, length, take, arith, ap, sym, ◌∙◌, subst}
use Rattle.std.proofs.lemmas.List.{take_more}
use Rattle.serial_model.specs.Replays.{RunIn}
use Rattle.serial_model.proofs.Runs.{run_push}
use Rattle.serial_model.proofs.replays.replay_in.Goals as goal

pub loop-place-preserved : goal.loop-place-preserved
loop-place-preserved g c =
    let form = g.E.EntryForm.form in
    let f = g.D.Decider.verdict c.args.decider.now in
    let told = c.index-entries-place.result in
    let before = take c.loop-place.place c.args.entries.now in
    let below : c.loop-place.place < length c.args.entries.now = omega arith in
    record {
      run = subst (λ es. RunIn form f c.args.start es c.makes_step.new.world)
          (ap (λ e. before ++ e ∷ []) c.index-entries-place.is ∙ sym (take_more c.args.entries.now c.loop-place.place told below))
          (run_push form f c.args.start c.loop-place.world c.makes_step.new.world before told c.loop-place.invariant.run c.if-not-makes_step.ensures.step);
      size = c.makes_step.ensures.size ∙ c.loop-place.invariant.size;
    }
