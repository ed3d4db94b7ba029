use Rattle.claim_rule.proofs.SeatingLemmas.{join_changes_nothing}
use Rattle.claim_rule.proofs.laws.join_changes_nothing.Goals as goal

pub returns : goal.returns
returns g c = λ way. join_changes_nothing way g.D.Decider.verdict
