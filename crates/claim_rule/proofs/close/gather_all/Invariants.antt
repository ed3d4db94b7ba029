use Rattle.std.proofs.Common.{◌≡◌, length}
use Rattle.claim_rule.proofs.GatheredRecords.{Gathered}
use Rattle.claim_rule.proofs.close.gather_all.Given as goal

abbrev pub invariant-loop-place : goal.invariant-loop-place
invariant-loop-place g l = (l.rest.table_id ≡ l.field.table) × Gathered l.field.terms l.fn.seats.items l.seats.items l.rest.me

abbrev pub decreases-loop-place : goal.decreases-loop-place
decreases-loop-place g l = length l.seats.items
