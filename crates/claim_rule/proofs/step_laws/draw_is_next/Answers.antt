use Rattle.claim_rule.proofs.Made.{draw_is_next}
use Rattle.claim_rule.proofs.step_laws.draw_is_next.Goals as goal

pub returns : goal.returns
returns g c = draw_is_next g.D.Decider.verdict
