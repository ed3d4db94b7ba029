use Rattle.std.proofs.Common.{◌≤◌, ◌+◌, length}
use Rattle.tests_model.proofs.worlds.full_patch.Given as goal

abbrev pub invariant-loop-id : goal.invariant-loop-id
invariant-loop-id l = length l.patch ≤ l.id + 1
