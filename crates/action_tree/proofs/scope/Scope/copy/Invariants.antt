use Rattle.std.proofs.Common.{◌≡◌, take}
use Rattle.action_tree.proofs.scope.Scope.copy.Given as goal

abbrev pub invariant-loop-text : goal.invariant-loop-text
invariant-loop-text l = l.bound.items ≡ take l.text-index l.self.bound.items
