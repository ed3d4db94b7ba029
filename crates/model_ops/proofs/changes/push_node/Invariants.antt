use Rattle.std.proofs.Common.{◌≡◌, drop}
use Rattle.std.specs.List.{find}
use Rattle.model_ops.specs.Members.{has_changed}
use Rattle.model_ops.proofs.changes.push_node.Given as goal

abbrev pub invariant-loop-node : goal.invariant-loop-node
invariant-loop-node l = (l.patch ≡ l.initial.patch) × (find (has_changed l.members) l.nodes ≡ find (has_changed l.members) (drop l.node-index l.nodes))
