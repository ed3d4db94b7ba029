use Rattle.std.proofs.Common.{◌≡◌, ◌*◌, ◌≤◌, [], take}
use Rattle.std.specs.List.{All, flat_map, fold}
use Rattle.tri_lattice.specs.Lattice.{IsNear, node_eq}
use Rattle.amoebot_state.specs.Storage.{with_new}
use Rattle.arrayvec.specs.ArrayVec.{array_vec_len}
use Rattle.round_meter.specs.Asking.{cells_among, nodes_of_cell}
use Rattle.round_meter.proofs.near.nodes_near.Given as goal

abbrev pub invariant-loop-name : goal.invariant-loop-name
invariant-loop-name l = record {
  value : l.nodes.items ≡ fold (with_new node_eq) [] (flat_map (nodes_of_cell l.fn.world) (cells_among (take l.name-index l.fn.changes)));
  few : array_vec_len l.nodes ≤ 2 * l.name-index;
  near : All IsNear l.nodes.items;
}
