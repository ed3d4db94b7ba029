use Rattle.std.proofs.Common.{◌≡◌, ◌++◌, map, take}
use Rattle.amoebot_state.specs.declared.cell.CellName.TheVariants as name
use Rattle.amoebot_state.proofs.next.push_spots.Given as goal

abbrev pub invariant-loop-node : goal.invariant-loop-node
invariant-loop-node l = l.zone.items ≡ l.initial.zone.items ++ map name.Spot (take l.node-index l.nodes)
