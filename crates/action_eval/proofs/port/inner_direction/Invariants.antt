use Rattle.std.proofs.Common.{◌≡◌, drop}
use Rattle.std.specs.List.{find}
use Rattle.tri_lattice.specs.Lattice.{directions, step, node_eq}
use Rattle.amoebot_state.specs.Ports.{global}
use Rattle.action_meaning.specs.Values.{inner_direction}
use Rattle.action_eval.proofs.port.inner_direction.Given as goal

abbrev pub invariant-loop-local : goal.invariant-loop-local
invariant-loop-local l = inner_direction l.own ≡ find (λ i. node_eq (step l.own.tail (global l.own i)) l.own.head) (drop l.local-index directions)
