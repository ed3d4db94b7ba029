use Rattle.std.specs.List.{All}
use Rattle.amoebot_state.specs.Refusals.{IsBotInRange}
use Rattle.tests_model.proofs.elections.candidates.Given as goal

abbrev pub invariant-loop-place : goal.invariant-loop-place
invariant-loop-place l = record { in_range : All IsBotInRange l.bots.items }
