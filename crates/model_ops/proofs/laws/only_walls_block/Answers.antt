use Rattle.model_ops.proofs.Blocked.{only_walls_block}
use Rattle.model_ops.proofs.laws.only_walls_block.Goals as goal

pub returns : goal.returns
returns c = only_walls_block
