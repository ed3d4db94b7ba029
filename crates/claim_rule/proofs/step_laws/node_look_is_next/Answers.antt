use Rattle.claim_rule.proofs.Made.{node_look_is_next}
use Rattle.claim_rule.proofs.step_laws.node_look_is_next.Goals as goal

pub returns : goal.returns
returns g c = node_look_is_next g.D.Decider.verdict
