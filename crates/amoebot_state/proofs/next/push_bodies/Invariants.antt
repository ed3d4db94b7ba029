use Rattle.std.proofs.Common.{◌≡◌, ◌++◌, map, take}
use Rattle.amoebot_state.specs.declared.cell.CellName.TheVariants as name
use Rattle.amoebot_state.proofs.next.push_bodies.Given as goal

abbrev pub invariant-loop-id : goal.invariant-loop-id
invariant-loop-id l = l.zone.items ≡ l.initial.zone.items ++ map name.Body (take l.id-index l.ids)
