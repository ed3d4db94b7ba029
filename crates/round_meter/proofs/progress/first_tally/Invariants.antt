use Rattle.std.proofs.Common.{◌≡◌}
use Rattle.round_meter.specs.Asking.{first_standings}
use Rattle.round_meter.proofs.progress.first_tally.Given as goal

abbrev pub invariant-loop-bot : goal.invariant-loop-bot
invariant-loop-bot g l = record {
  standings : l.tally.standings ≡ first_standings (g.D.Decider.verdict l.fn.decider) l.fn.world l.bot;
  rounds : l.tally.rounds ≡ 0;
}
