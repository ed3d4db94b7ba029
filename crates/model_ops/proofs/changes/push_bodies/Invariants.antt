use Rattle.std.proofs.Common.{◌≡◌, ◌≤◌, ◌+◌, ◌++◌, length, map, take}
use Rattle.model_ops.specs.Members.{body_change}
use Rattle.model_ops.proofs.changes.push_bodies.Given as goal

abbrev pub invariant-loop-member : goal.invariant-loop-member
invariant-loop-member l = (l.patch ≡ l.initial.patch ++ map body_change (take l.member-index l.members)) × (length l.patch ≤ length l.initial.patch + l.member-index)
