use Rattle.std.proofs.Common.{◌≡◌, ◌*◌, ◌++◌}
use Rattle.claim_rule.proofs.FirstSlots.{node_slots, bodies_so_far}
use Rattle.claim_rule.proofs.make.ticket_slots.Given as goal

abbrev pub invariant-loop-number : goal.invariant-loop-number
invariant-loop-number l = (l.area ≡ l.world.area) × (l.slots.items ≡ node_slots l.world l.number)

abbrev pub invariant-loop-id : goal.invariant-loop-id
invariant-loop-id l = l.slots.items ≡ node_slots l.world (l.world.area.w * l.world.area.h) ++ bodies_so_far l.world l.id
