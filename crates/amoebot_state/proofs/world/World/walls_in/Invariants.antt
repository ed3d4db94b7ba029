use Rattle.std.proofs.Common.{◌≡◌, take}
use Rattle.amoebot_state.specs.Known.{walls_read}
use Rattle.amoebot_state.proofs.world.World.walls_in.Given as goal

abbrev pub invariant-loop-name : goal.invariant-loop-name
invariant-loop-name l = l.walls.items ≡ walls_read l.self (take l.name-index l.cells)
