use Rattle.claim_rule.proofs.Made.{release_is_next}
use Rattle.claim_rule.proofs.step_laws.release_is_next.Goals as goal

pub returns : goal.returns
returns g c = λ way z. release_is_next g.D.Decider.verdict z way
