use Rattle.claim_rule.proofs.Ends.{field_ends_one_way}
use Rattle.claim_rule.proofs.laws.field_ends_one_way.Goals as goal

pub returns : goal.returns
returns g c = λ way. field_ends_one_way way g.D.Decider.verdict
