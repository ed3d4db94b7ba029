use Rattle.std.proofs.Common.{◌≡◌, ◌+◌, take}
use Rattle.std.specs.List.{fold}
use Rattle.round_meter.specs.Asking.{asked_again}
use Rattle.round_meter.proofs.progress.ask_each.Given as goal

abbrev pub invariant-loop-id : goal.invariant-loop-id
invariant-loop-id g l = record {
  standings : l.tally.standings ≡ fold (asked_again (g.D.Decider.verdict l.fn.decider) l.fn.world (l.fn.tally.rounds + 1)) l.fn.tally.standings (take l.id-index l.fn.ids);
  rounds : l.tally.rounds ≡ l.fn.tally.rounds;
}
