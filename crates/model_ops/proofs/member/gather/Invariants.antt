use Rattle.std.proofs.Common.{◌≡◌, take}
use Rattle.std.specs.List.{filter_map}
use Rattle.model_ops.specs.Members.{taken}
use Rattle.model_ops.proofs.member.gather.Given as goal

abbrev pub invariant-loop-name : goal.invariant-loop-name
invariant-loop-name l = l.members.items ≡ filter_map taken (take l.name-index l.name-items)
