use Rattle.std.proofs.Common.{◌≡◌, ◌+◌, ◌≤◌, ◌∷◌, nat_eq, take}
use Rattle.std.specs.List.{fold}
use Rattle.tri_lattice.specs.Lattice.{ring}
use Rattle.amoebot_state.specs.Storage.{with_new}
use Rattle.arrayvec.specs.ArrayVec.{array_vec_len}
use Rattle.round_meter.specs.Asking.{ids_on}
use Rattle.round_meter.proofs.near.push_round.Given as goal

abbrev pub invariant-loop-neighbour : goal.invariant-loop-neighbour
invariant-loop-neighbour l = record {
  value : l.ids.items ≡ fold (with_new nat_eq) l.fn.ids.items (ids_on l.fn.world (l.fn.node ∷ take l.neighbour-index (ring l.fn.node)));
  few : array_vec_len l.ids ≤ array_vec_len l.fn.ids + 1 + l.neighbour-index;
}
