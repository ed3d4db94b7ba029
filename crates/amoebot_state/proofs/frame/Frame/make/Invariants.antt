use Rattle.std.proofs.Common.{take}
use Rattle.amoebot_state.specs.Refusals.{AreWalls}
use Rattle.amoebot_state.specs.Storage.{IsMarked}
use Rattle.amoebot_state.proofs.frame.Frame.make.Given as goal

abbrev pub invariant-loop-place : goal.invariant-loop-place
invariant-loop-place l = record { marked : IsMarked l.fn.area (take l.place l.walls) l.marks.items; fine : AreWalls l.fn.area l.walls l.place }
