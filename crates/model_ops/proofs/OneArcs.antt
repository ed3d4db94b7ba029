-- The test of one arc.
use Rattle.ring_guard.proofs.Tables.{is_one_arc-true, IsOneArc-is_one_arc}
use Rattle.model_ops.specs.Laws.{OneArcTestIsOneArc}

pub one_arc_test_is_one_arc : OneArcTestIsOneArc
one_arc_test_is_one_arc xs = (is_one_arc-true xs, IsOneArc-is_one_arc xs)
