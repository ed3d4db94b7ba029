use Rattle.std.proofs.Common.{subst}
use Rattle.std.proofs.lemmas.Result.{on_ok_weaker}
use Rattle.amoebot_state.specs.declared.verdict.Entry.{Entry}
use Rattle.round_meter.specs.Meters.{GoesOnWith}
use Rattle.round_meter.proofs.meter.Meter.feed.Goals as goal

pub returns : goal.returns
returns g c =
    let f = g.D.Decider.verdict c.args.self.now.decider in
    record {
      goes_on = on_ok_weaker c.feed_in.result (λ told. subst (λ (e : Entry). GoesOnWith f e c.args.self.now.state c.feed_in.new.self.state) told.tells told.holds) c.feed_in.ensures.goes_on;
      fed = c.feed_in.ensures.fed;
      size = c.feed_in.ensures.size;
      differs = c.feed_in.ensures.differs;
      decider = c.feed_in.ensures.decider;
    }
