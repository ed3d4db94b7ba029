use Rattle.serial_model.specs.Replays.{IsNoStep}
use Rattle.serial_model.specs.declared.replays.Differs.{Differs}
use Rattle.round_meter.proofs.MeterLemmas.{meter_differs}
use Rattle.round_meter.proofs.meter.Meter.feed_in.Goals as goal

pub returns-in-Some-clause-differs : goal.returns-in-Some-clause-differs
returns-in-Some-clause-differs g c =
    meter_differs c.feed.result (λ (e : Differs). e.place) (λ d m. IsNoStep g.E.EntryForm.form (g.D.Decider.verdict d) m.world c.args.told.now) c.self.inside.decider.now c.self.inside.progress c.feed.new.self c.args.self.now c.self.view_is c.feed.ensures.differs

pub returns-in-None-clause-differs : goal.returns-in-None-clause-differs
returns-in-None-clause-differs g c =
    meter_differs c.feed-in-None.result (λ (e : Differs). e.place) (λ d m. IsNoStep g.E.EntryForm.form (g.D.Decider.verdict d) m.world c.args.told.now) c.self.inside.decider.now c.self.inside.progress c.feed-in-None.new.self c.args.self.now c.self.view_is c.feed-in-None.ensures.differs
