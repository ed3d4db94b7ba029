use Rattle.std.specs.List.{All}
use Rattle.amoebot_state.specs.Refusals.{IsBotInRange}
use Rattle.tests_model.proofs.round_runs.draw_bots.Given as goal

abbrev pub invariant-loop : goal.invariant-loop
invariant-loop l = record { in_range : All IsBotInRange l.bots.items }
