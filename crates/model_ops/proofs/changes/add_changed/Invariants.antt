use Rattle.std.proofs.Common.{◌≡◌, ◌≤◌, length, take, filter}
use Rattle.model_ops.specs.Members.{is_changed, ranked}
use Rattle.model_ops.proofs.changes.add_changed.Given as goal

abbrev pub invariant-loop-member : goal.invariant-loop-member
invariant-loop-member l = (l.changed.items ≡ ranked (filter is_changed (take l.member-index l.members))) × (length l.changed.items ≤ l.member-index)
