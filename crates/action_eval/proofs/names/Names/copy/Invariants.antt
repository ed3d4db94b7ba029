use Rattle.std.proofs.Common.{◌≡◌, take}
use Rattle.action_eval.proofs.names.Names.copy.Given as goal

abbrev pub invariant-loop-name : goal.invariant-loop-name
invariant-loop-name l = l.bound.items ≡ take l.name-index l.self.bound.items
