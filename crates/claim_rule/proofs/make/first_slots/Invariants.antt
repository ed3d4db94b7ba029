use Rattle.std.proofs.Common.{◌≡◌}
use Rattle.claim_rule.proofs.FirstSlots.{bodies_so_far}
use Rattle.claim_rule.proofs.make.first_slots.Given as goal

abbrev pub invariant-loop-id : goal.invariant-loop-id
invariant-loop-id l = l.slots.items ≡ bodies_so_far l.world l.id
