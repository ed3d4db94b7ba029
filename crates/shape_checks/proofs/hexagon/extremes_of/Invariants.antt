use Rattle.shape_checks.proofs.Extremes.{AreExtremesBelow}
use Rattle.shape_checks.proofs.hexagon.extremes_of.Given as goal

abbrev pub invariant-loop-id : goal.invariant-loop-id
invariant-loop-id l = AreExtremesBelow l.world l.ends l.id
