use Rattle.std.specs.List.{All}
use Rattle.amoebot_state.specs.Refusals.{IsBotInRange}
use Rattle.tests_model.proofs.crowds.surrounded.Given as goal

abbrev pub invariant-loop-head : goal.invariant-loop-head
invariant-loop-head l = record { in_range : All IsBotInRange l.bots.items }

abbrev pub invariant-loop-y : goal.invariant-loop-y
invariant-loop-y l = record { in_range : All IsBotInRange l.bots.items }

abbrev pub invariant-loop-x : goal.invariant-loop-x
invariant-loop-x l = record { in_range : All IsBotInRange l.bots.items }
