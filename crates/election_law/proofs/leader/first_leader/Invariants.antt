use Rattle.std.proofs.Common.{◌≡◌, ◌<◌, ℕ, false}
use Rattle.election_law.specs.Elections.{is_leader}
use Rattle.election_law.proofs.leader.first_leader.Given as goal

abbrev pub invariant-loop-id : goal.invariant-loop-id
invariant-loop-id l = (k : ℕ) → k < l.id → is_leader l.world k ≡ false
