use Rattle.std.proofs.Common.{◌≡◌, ◌≤◌, length, take}
use Rattle.amoebot_state.specs.Pairs.{plain_patch}
use Rattle.amoebot_state.proofs.cell.Patch.plain.Given as goal

abbrev pub invariant-loop-name : goal.invariant-loop-name
invariant-loop-name l = (l.plain ≡ plain_patch (take l.name-index l.self)) × (length l.plain ≤ l.name-index)
