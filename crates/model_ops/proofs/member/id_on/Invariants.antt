use Rattle.std.proofs.Common.{◌≡◌, drop}
use Rattle.model_ops.specs.Members.{id_on}
use Rattle.model_ops.proofs.Lowest.{least}
use Rattle.model_ops.proofs.member.id_on.Given as goal

abbrev pub invariant-loop-member : goal.invariant-loop-member
invariant-loop-member l = least l.lowest (id_on (drop l.member-index l.members) l.node) ≡ id_on l.members l.node
