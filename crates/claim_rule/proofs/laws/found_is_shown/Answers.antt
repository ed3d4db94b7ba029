use Rattle.claim_rule.proofs.Shows.{found_is_shown}
use Rattle.claim_rule.proofs.laws.found_is_shown.Goals as goal

pub returns : goal.returns
returns g c = λ way. found_is_shown way g.D.Decider.verdict
