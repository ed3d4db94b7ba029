use Rattle.claim_rule.proofs.Opens.{opening_is}
use Rattle.claim_rule.proofs.laws.opening_stands.Goals as goal

pub returns : goal.returns
returns g c = λ way. opening_is way g.D.Decider.verdict
