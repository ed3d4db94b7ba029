use Rattle.std.proofs.Common.{◌≡◌, take}
use Rattle.amoebot_state.specs.Ways.{reading}
use Rattle.tests_model.proofs.worlds.both_read.Given as goal

abbrev pub invariant-loop-read : goal.invariant-loop-read
invariant-loop-read l = l.zone ≡ reading l.area l.id (take l.read l.cells)
