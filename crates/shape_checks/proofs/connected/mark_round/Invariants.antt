use Rattle.amoebot_state.specs.Occupied.{occupied}
use Rattle.shape_checks.proofs.NeighbourLoops.{IsRound}
use Rattle.shape_checks.proofs.connected.mark_round.Given as goal

abbrev pub invariant-loop-next : goal.invariant-loop-next
invariant-loop-next l = IsRound (occupied l.world) l.world.area l.initial.marks.items l.initial.order.items l.marks.items l.order.items l.number l.next-index
