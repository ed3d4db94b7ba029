use Rattle.std.proofs.Common.{◌≡◌, ◌≤◌, take}
use Rattle.std.specs.List.{count_by}
use Rattle.shape_checks.specs.Values.{has_value}
use Rattle.shape_checks.proofs.values.count_value.Given as goal

abbrev pub invariant-loop-id : goal.invariant-loop-id
invariant-loop-id l = (l.count ≡ count_by (has_value l.var l.value) (take l.id l.world.bots)) × (l.count ≤ l.id)
