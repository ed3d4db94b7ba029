use Rattle.std.proofs.Common.{◌≡◌, ◌≤◌, ◌+◌, take}
use Rattle.std.specs.List.{fold}
use Rattle.arrayvec.specs.ArrayVec.{array_vec_len}
use Rattle.amoebot_state.specs.Ports.{own_nodes, all_ports}
use Rattle.amoebot_state.specs.Storage.{with_port}
use Rattle.amoebot_state.proofs.zone.zone_nodes.Given as goal

abbrev pub invariant-loop-port : goal.invariant-loop-port
invariant-loop-port l = (l.nodes.items ≡ fold (with_port l.area l.bot) (own_nodes l.bot) (take l.port-index all_ports)) × (array_vec_len l.nodes ≤ 2 + l.port-index)
