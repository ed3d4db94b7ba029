use Rattle.shape_checks.proofs.Circles.{IsRun}
use Rattle.shape_checks.proofs.arc.is_one_arc.Given as goal

abbrev pub invariant-loop-j : goal.invariant-loop-j
invariant-loop-j l = IsRun l.circle l.from l.over l.j
