use Rattle.std.proofs.Common.{◌≡◌, filter, take}
use Rattle.std.specs.Option.{option_copied}
use Rattle.model_ops.specs.Members.{is_changed}
use Rattle.model_ops.proofs.OnlyChanged.{listed}
use Rattle.model_ops.proofs.changes.only_changed.Given as goal

abbrev pub invariant-loop-member : goal.invariant-loop-member
invariant-loop-member l = listed (option_copied l.only) ≡ filter is_changed (take l.member-index l.members)
