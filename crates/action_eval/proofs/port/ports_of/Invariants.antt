use Rattle.std.proofs.Common.{◌≡◌, ◌≤◌, take}
use Rattle.std.specs.List.{filter}
use Rattle.arrayvec.specs.ArrayVec.{array_vec_len}
use Rattle.amoebot_state.specs.Ports.{all_ports}
use Rattle.action_eval.specs.Known.{sight_of, is_in_set}
use Rattle.action_eval.proofs.port.ports_of.Given as goal

abbrev pub invariant-loop-port : goal.invariant-loop-port
invariant-loop-port l = (l.ports.items ≡ filter (is_in_set (sight_of l.site) l.set) (take l.port-index all_ports)) × (array_vec_len l.ports ≤ l.port-index)
