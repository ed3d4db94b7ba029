use Rattle.std.proofs.Common.{◌≡◌}
use Rattle.run_sample.specs.Callers.{ids_below}
use Rattle.run_sample.proofs.lists.ids_of.Given as goal

abbrev pub invariant-loop-id : goal.invariant-loop-id
invariant-loop-id l = l.ids.items ≡ ids_below l.id l.caller
