use Rattle.std.proofs.Common.{◌≡◌, ◌<◌, ◌≤◌, ℕ, true, false, get_or, ◌+◌}
use Rattle.std.specs.Slots.{slots_filled, slots_len}
use Rattle.claim_rule.proofs.close.journal_of.Given as goal

-- the journal's slot is empty, and those of the bodies before this one
abbrev pub invariant-loop-body : goal.invariant-loop-body
invariant-loop-body l = (slots_len l.closed.slots ≡ l.bodies + 1) × ((k : ℕ) → k < l.body → get_or (slots_filled l.closed.slots) k false ≡ false) × (get_or (slots_filled l.closed.slots) l.bodies false ≡ false) × ((k : ℕ) → l.body ≤ k → k < l.bodies → get_or (slots_filled l.closed.slots) k false ≡ true)
