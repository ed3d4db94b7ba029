use Rattle.std.proofs.Common.{◌≡◌, ◌<◌, length, take, arith, ap, sym, ◌∙◌}
use Rattle.std.proofs.lemmas.Bool.{false≢true}
use Rattle.std.proofs.Math.Seq.{take-length}
use Rattle.serial_model.specs.Replays.{RunIn}
use Rattle.document_answers.specs.Journals.{at_end}
use Rattle.document_answers.proofs.ToldEntries.{run_pushed, stops, told_pushed}
use Rattle.document_answers.proofs.renew.follow_all.Goals as goal

pub returns-in-None : goal.returns-in-None
returns-in-None g c =
    let below : c.loop-place.place < length c.args.entries.now = omega arith in
    let run : RunIn g.E.EntryForm.form (g.D.Decider.verdict c.args.decider.now) c.args.start (take c.loop-place.place c.args.entries.now) c.loop-place.serial = record { source = c.loop-place.followed.items; tells = c.loop-place.invariant.tells; holds = c.loop-place.invariant.run } in
    stops g.E.EntryForm.form c.args.entries.now (g.D.Decider.verdict c.args.decider.now) c.args.start c.loop-place.serial c.args.last.now c.index-entries-place.result c.loop-place.place below c.index-entries-place.is run c.in-None.ensures.none

pub loop-place-preserved : goal.loop-place-preserved
loop-place-preserved g c =
    let below : c.loop-place.place < length c.args.entries.now = omega arith in
    record {
      tells = told_pushed g.E.EntryForm.form c.args.entries.now c.loop-place.followed.items _ c.in-Some.entry c.index-entries-place.result c.loop-place.place c.in_ok-push-in-Some.ensures.items below c.index-entries-place.is c.loop-place.invariant.tells c.in-Some.ensures.told;
      run = run_pushed (g.D.Decider.verdict c.args.decider.now) c.args.start c.loop-place.serial c.follow_in.new.self c.loop-place.followed.items _ c.in-Some.entry c.in_ok-push-in-Some.ensures.items c.loop-place.invariant.run c.in-Some.ensures.step;
      size = c.follow_in.ensures.size ∙ c.loop-place.invariant.size;
    }

pub returns-else-same : goal.returns-else-same
returns-else-same g c =
    let end : c.loop-place.place ≡ length c.args.entries.now = omega arith in
    let tells = c.loop-place.invariant.tells ∙ ap (λ n. take n c.args.entries.now) end ∙ take-length c.args.entries.now in
    at_end c.loop-place.serial (record { source = c.loop-place.followed.items; tells = tells; holds = c.loop-place.invariant.run }) (λ same. false≢true (sym c.if-same.false ∙ c.same.ensures.1 (c.world.ensures ∙ same)))
