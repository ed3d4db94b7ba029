use Rattle.round_meter.proofs.meter.Meter.follow.Goals as goal

pub returns : goal.returns
returns g c = record {
  goes_on = c.feed_in.ensures.goes_on;
  fed = c.feed_in.ensures.fed;
  size = c.feed_in.ensures.size;
  differs = c.feed_in.ensures.differs;
  decider = c.feed_in.ensures.decider;
}
