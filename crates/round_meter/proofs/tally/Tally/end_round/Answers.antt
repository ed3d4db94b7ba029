use Rattle.round_meter.proofs.TallyLemmas.{ended_tally}
use Rattle.round_meter.proofs.tally.Tally.end_round.Goals as goal

pub invariant_of-self : goal.invariant_of-self
invariant_of-self c = ended_tally c.self.inside.standings.items c.self.inside.rounds c.self.inside.able c.self.inside.waiting c.self.invariant
