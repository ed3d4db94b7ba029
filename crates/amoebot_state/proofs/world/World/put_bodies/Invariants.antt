use Rattle.std.proofs.Common.{◌≡◌, ◌≤◌, ◌+◌, ◌++◌, take}
use Rattle.std.specs.List.{filter_map}
use Rattle.arrayvec.specs.ArrayVec.{array_vec_len}
use Rattle.amoebot_state.specs.declared.cell.CellName.TheVariants as name
use Rattle.amoebot_state.specs.Zones.{shown_cell}
use Rattle.amoebot_state.proofs.world.World.put_bodies.Given as goal

abbrev pub invariant-loop-id : goal.invariant-loop-id
invariant-loop-id l = (l.cells.items ≡ l.initial.cells.items ++ filter_map (λ i. shown_cell l.self (name.Body i)) (take l.id-index l.ids)) × (array_vec_len l.cells ≤ array_vec_len l.initial.cells + l.id-index)
