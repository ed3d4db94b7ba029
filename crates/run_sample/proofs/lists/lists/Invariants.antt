use Rattle.std.proofs.Common.{◌≡◌}
use Rattle.run_sample.proofs.Ids.{first_lists}
use Rattle.run_sample.proofs.lists.lists.Given as goal

abbrev pub invariant-loop-caller : goal.invariant-loop-caller
invariant-loop-caller l = l.lists ≡ first_lists l.caller
