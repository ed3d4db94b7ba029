use Rattle.std.proofs.Common.{◌≡◌, ◌*◌, ◌≤◌, [], nat_eq, take}
use Rattle.std.specs.List.{fold}
use Rattle.amoebot_state.specs.Storage.{with_new}
use Rattle.arrayvec.specs.ArrayVec.{array_vec_len}
use Rattle.round_meter.specs.Asking.{ids_round}
use Rattle.round_meter.proofs.near.ids_round.Given as goal

abbrev pub invariant-loop-node : goal.invariant-loop-node
invariant-loop-node l = record {
  value : l.ids.items ≡ fold (with_new nat_eq) [] (ids_round l.fn.world (take l.node-index l.fn.nodes));
  few : array_vec_len l.ids ≤ 7 * l.node-index;
}
