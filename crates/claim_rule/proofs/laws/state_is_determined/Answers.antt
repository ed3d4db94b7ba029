use Rattle.claim_rule.proofs.Determined.{state_is_determined}
use Rattle.claim_rule.proofs.laws.state_is_determined.Goals as goal

pub returns : goal.returns
returns g c = λ way. state_is_determined way g.D.Decider.verdict
