use Rattle.std.proofs.Common.{◌<◌, ℕ}
use Rattle.shape_checks.specs.Arcs.{IsStart}
use Rattle.shape_checks.proofs.arc.start.Given as goal

abbrev pub invariant-loop-i : goal.invariant-loop-i
invariant-loop-i l = (k : ℕ) → k < l.i → ¬ IsStart l.circle k
