use Rattle.model_ops.proofs.OneArcs.{one_arc_test_is_one_arc}
use Rattle.model_ops.proofs.laws.one_arc_test_is_one_arc.Goals as goal

pub returns : goal.returns
returns c = one_arc_test_is_one_arc
