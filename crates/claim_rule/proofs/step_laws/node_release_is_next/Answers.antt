use Rattle.claim_rule.proofs.Made.{node_release_is_next}
use Rattle.claim_rule.proofs.step_laws.node_release_is_next.Goals as goal

pub returns : goal.returns
returns g c = node_release_is_next g.D.Decider.verdict
