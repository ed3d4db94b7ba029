use Rattle.model_ops.proofs.Splits.{unguarded_splits}
use Rattle.model_ops.proofs.laws.unguarded_contract_splits.Goals as goal

pub returns : goal.returns
returns c = unguarded_splits
