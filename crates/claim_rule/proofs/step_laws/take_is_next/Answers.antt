use Rattle.claim_rule.proofs.Made.{take_is_next}
use Rattle.claim_rule.proofs.step_laws.take_is_next.Goals as goal

pub returns : goal.returns
returns g c = take_is_next g.D.Decider.verdict
