use Rattle.claim_rule.proofs.Made.{node_claim_is_next}
use Rattle.claim_rule.proofs.step_laws.node_claim_is_next.Goals as goal

pub returns : goal.returns
returns g c = node_claim_is_next g.D.Decider.verdict
