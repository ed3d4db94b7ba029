use Rattle.std.proofs.Common.{◌≡◌, ◌-◌, ◌+◌, length}
use Rattle.amoebot_state.specs.Occupied.{occupied}
use Rattle.shape_checks.specs.Marks.{unmarked_count, met, IsSearch}
use Rattle.shape_checks.proofs.connected.reached.Given as goal

abbrev pub invariant-loop-done : goal.invariant-loop-done
invariant-loop-done l = IsSearch (occupied l.world) l.world.area l.marks.items l.order.items l.done × (met l.order.items 0 ≡ l.fn.start)

abbrev pub decreases-loop-done : goal.decreases-loop-done
decreases-loop-done l = unmarked_count l.marks.items + length l.order.items - l.done
