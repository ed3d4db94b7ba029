use Rattle.model_ops.proofs.ShownAlike.{shown_meets_the_same}
use Rattle.model_ops.proofs.laws.shown_meets_the_same.Goals as goal

pub returns : goal.returns
returns c = shown_meets_the_same
