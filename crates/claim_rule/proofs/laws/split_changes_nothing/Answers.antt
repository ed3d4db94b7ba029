use Rattle.claim_rule.proofs.SeatingLemmas.{split_changes_nothing}
use Rattle.claim_rule.proofs.laws.split_changes_nothing.Goals as goal

pub returns : goal.returns
returns g c = λ way. split_changes_nothing way g.D.Decider.verdict
