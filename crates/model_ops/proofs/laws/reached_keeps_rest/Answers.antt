use Rattle.model_ops.proofs.KeepsRest.{reached_keeps_rest}
use Rattle.model_ops.proofs.laws.reached_keeps_rest.Goals as goal

pub returns : goal.returns
returns c = reached_keeps_rest
