use Rattle.claim_rule.proofs.Leaves.{ended_field_is_reached}
use Rattle.claim_rule.proofs.laws.ended_field_is_reached.Goals as goal

pub returns : goal.returns
returns g c = ended_field_is_reached g.D.Decider.verdict
