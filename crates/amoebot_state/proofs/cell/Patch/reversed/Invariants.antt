use Rattle.std.proofs.Common.{◌≡◌, ◌≤◌, length, take}
use Rattle.amoebot_state.specs.Reversals.{reversed_patch}
use Rattle.amoebot_state.proofs.cell.Patch.reversed.Given as goal

abbrev pub invariant-loop-name : goal.invariant-loop-name
invariant-loop-name l = (l.back ≡ reversed_patch (take l.name-index l.self)) × (length l.back ≤ l.name-index)
