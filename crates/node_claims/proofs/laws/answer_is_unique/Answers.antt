use Rattle.node_claims.proofs.Answered.{answer_is_unique}
use Rattle.node_claims.proofs.laws.answer_is_unique.Goals as goal

pub returns : goal.returns
returns g c = answer_is_unique _ g.D.Decider.verdict
