use Rattle.std.proofs.Common.{◌≡◌, take, map}
use Rattle.action_check.specs.Maxes.{first_or_zero}
use Rattle.action_check.proofs.checked.Checked.maxes.Given as goal

abbrev pub invariant-loop-i : goal.invariant-loop-i
invariant-loop-i l = l.maxes ≡ first_or_zero 8 (take l.i (map (λ v. v.max.value) l.vars))
