use Rattle.std.proofs.Common.{◌≤◌}
use Rattle.tests_model.proofs.slow_rounds.History.unsettled.Given as goal

abbrev pub invariant-loop-bot : goal.invariant-loop-bot
invariant-loop-bot l = record { few : l.count ≤ l.bot }
