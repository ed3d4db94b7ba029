use Rattle.std.proofs.Common.{◌≡◌, ◌<◌, ◌≤◌, ℕ, true, false, get_or}
use Rattle.std.specs.Slots.{slots_filled, slots_len}
use Rattle.claim_rule.proofs.close.drop_slots.Given as goal

-- the slots before this one are empty
abbrev pub invariant-loop-slot : goal.invariant-loop-slot
invariant-loop-slot l = (slots_len l.closed.slots ≡ l.count) × ((k : ℕ) → k < l.slot → get_or (slots_filled l.closed.slots) k false ≡ false) × ((k : ℕ) → l.slot ≤ k → k < l.count → get_or (slots_filled l.closed.slots) k false ≡ true)
