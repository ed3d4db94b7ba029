use Rattle.claim_rule.proofs.Leaves.{ended_tickets_are_reached}
use Rattle.claim_rule.proofs.laws.ended_tickets_are_reached.Goals as goal

pub returns : goal.returns
returns g c = ended_tickets_are_reached g.D.Decider.verdict
