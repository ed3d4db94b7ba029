use Rattle.std.proofs.Common.{◌≡◌, length}
use Rattle.std.specs.List.{All}
use Rattle.amoebot_state.specs.Refusals.{IsBotInRange}
use Rattle.tests_turns.proofs.meetings.scattered.Given as goal

abbrev pub invariant-loop-number : goal.invariant-loop-number
invariant-loop-number l = All IsBotInRange l.bots.items × (length l.bots.items ≡ l.number)
