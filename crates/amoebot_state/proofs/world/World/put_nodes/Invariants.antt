use Rattle.std.proofs.Common.{◌≡◌, ◌≤◌, ◌+◌, ◌++◌, [], filter, map, take}
use Rattle.std.specs.List.{fold}
use Rattle.arrayvec.specs.ArrayVec.{array_vec_len}
use Rattle.amoebot_state.specs.declared.cell.CellName.TheVariants as name
use Rattle.amoebot_state.specs.declared.cell.Cell.TheVariants as cell
use Rattle.amoebot_state.specs.Configs.{is_wall, occupant}
use Rattle.amoebot_state.specs.Storage.{with_other}
use Rattle.amoebot_state.proofs.world.World.put_nodes.Given as goal

abbrev pub invariant-loop-node : goal.invariant-loop-node
invariant-loop-node l = record {
  cells : l.cells.items ≡ l.initial.cells.items ++ map (λ v. (name.Spot v, cell.Spot (occupant l.self v))) (take l.node-index l.nodes);
  walls : l.walls.items ≡ filter (is_wall l.self) (take l.node-index l.nodes);
  ids : l.ids.items ≡ fold (λ is v. with_other l.bot is (occupant l.self v)) [] (take l.node-index l.nodes);
  room : array_vec_len l.cells ≡ array_vec_len l.initial.cells + l.node-index;
  few_walls : array_vec_len l.walls ≤ l.node-index;
  few_ids : array_vec_len l.ids ≤ l.node-index;
}
