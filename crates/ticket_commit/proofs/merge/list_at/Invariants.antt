use Rattle.std.proofs.Common.{◌≡◌, ◌<◌, ℕ}
use Rattle.claim_core.specs.Merges.{own_of}
use Rattle.ticket_commit.specs.OwnLists.{BeginsAt, entry_lists}
use Rattle.ticket_commit.proofs.merge.list_at.Given as goal

-- no list so far begins with the place
abbrev pub invariant-loop-own : goal.invariant-loop-own
invariant-loop-own l = (l.caller ≡ l.own-index) × ((c : ℕ) → c < l.own-index → BeginsAt l.place (own_of (entry_lists l.lists) c) → ⊥)
