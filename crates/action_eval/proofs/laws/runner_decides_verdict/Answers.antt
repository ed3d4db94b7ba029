use Rattle.action_meaning.proofs.Decided.{verdict_is_shown}
use Rattle.action_eval.proofs.laws.runner_decides_verdict.Goals as goal

pub returns : goal.returns
returns c = λ d i valid there. verdict_is_shown c.args._runner.now d i valid there
