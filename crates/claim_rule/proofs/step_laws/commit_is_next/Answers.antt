use Rattle.claim_rule.proofs.Made.{commit_is_next}
use Rattle.claim_rule.proofs.step_laws.commit_is_next.Goals as goal

pub returns : goal.returns
returns g c = commit_is_next g.D.Decider.verdict
