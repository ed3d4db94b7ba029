use Rattle.claim_rule.proofs.Made.{look_is_next}
use Rattle.claim_rule.proofs.step_laws.look_is_next.Goals as goal

pub returns : goal.returns
returns g c = λ way z. look_is_next g.D.Decider.verdict z way
