use Rattle.std.proofs.Common.{◌≡◌, length, arith, sym, ◌∙◌, subst}
use Rattle.std.proofs.lemmas.Bool.{false≢true}
use Rattle.serial_model.specs.Replays.{IsNoStep}
use Rattle.round_meter.specs.Meters.{GoesOnIn}
use Rattle.document_answers.specs.Journals.{at_end}
use Rattle.document_answers.proofs.ToldEntries.{fed_all, fed_more, stops_there, told_all}
use Rattle.document_answers.proofs.rounds.count_rounds.Goals as goal

pub returns-in-Err : goal.returns-in-Err
returns-in-Err g c =
    let world = c.loop-told.meter.state.world in
    let none = subst (λ d. IsNoStep g.E.EntryForm.form (g.D.Decider.verdict d) world c.told-item.result) c.loop-told.invariant.decider c.in-Err.ensures.differs.1 in
    stops_there g.E.EntryForm.form c.args.entries.now (g.D.Decider.verdict c.args.decider.now) c.args.start c.args.last.now c.loop-told.meter.state c.told-item.result c.loop-told.told-index c.in-Err.differs.place c.loop-told-test.true c.told-item.is c.loop-told.invariant.metered none c.in-Err.ensures.differs.0

pub loop-told-preserved : goal.loop-told-preserved
loop-told-preserved g c =
    let same = c.loop-told.invariant.decider in
    let on = subst (λ d. GoesOnIn g.E.EntryForm.form (g.D.Decider.verdict d) c.told-item.result c.loop-told.meter.state c.feed_in.new.self.state) same c.in-Ok.ensures.goes_on in
    record {
      metered = fed_more g.E.EntryForm.form c.args.entries.now (g.D.Decider.verdict c.args.decider.now) c.args.start c.loop-told.meter.state c.feed_in.new.self.state c.told-item.result c.loop-told.told-index c.loop-told-test.true c.told-item.is c.loop-told.invariant.metered on;
      decider = c.in-Ok.ensures.decider ∙ same;
      size = c.in-Ok.ensures.size ∙ c.loop-told.invariant.size;
    }

pub returns-then-same : goal.returns-then-same
returns-then-same g c =
    let end : c.loop-told.told-index ≡ length c.args.entries.now = omega arith in
    let all = told_all g.E.EntryForm.form c.args.entries.now _ c.loop-told.told-index end c.loop-told.invariant.metered in
    fed_all g.E.EntryForm.form c.args.entries.now c.meter_tells_rounds.ensures (g.D.Decider.verdict c.args.decider.now) c.args.start c.args.last.now c.loop-told.meter.state c.rounds.result c.waiting.result all (sym c.world.ensures ∙ c.same.ensures.0 c.if-same.true) c.rounds.ensures c.waiting.ensures

pub returns : goal.returns
returns g c =
    let end : c.loop-told.told-index ≡ length c.args.entries.now = omega arith in
    let all = told_all g.E.EntryForm.form c.args.entries.now _ c.loop-told.told-index end c.loop-told.invariant.metered in
    at_end c.loop-told.meter.state.world (record { source = all.source; tells = all.tells; holds = all.holds.run })
    (λ same. false≢true (sym c.if-same.false ∙ c.same.ensures.1 (c.world.ensures ∙ same)))
