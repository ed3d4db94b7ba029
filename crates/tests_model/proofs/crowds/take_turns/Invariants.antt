use Rattle.std.proofs.Common.{◌≤◌}
use Rattle.tests_model.proofs.crowds.take_turns.Given as goal

abbrev pub invariant-loop-bot : goal.invariant-loop-bot
invariant-loop-bot g l = record {
  fed : l.meter.state.fed ≤ l.bot;
  followed : l.follower.state.fed ≤ l.bot;
  few : l.entries ≤ l.bot;
}
