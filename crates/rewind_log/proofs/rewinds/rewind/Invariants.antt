use Rattle.std.proofs.Common.{◌-◌, ◌≡◌, ◌≤◌, length}
use Rattle.rewind_log.specs.Rewinds.{IsBack}
use Rattle.rewind_log.proofs.rewinds.rewind.Given as goal

abbrev pub invariant-loop-at : goal.invariant-loop-at
invariant-loop-at g l = record {
  low : l.place ≤ l.at;
  size : length l.world.bots ≡ length l.fn.last.bots;
  back : IsBack (g.D.Decider.verdict l.decider) l.fn.last l.entries l.at l.world;
}

abbrev pub decreases-loop-at : goal.decreases-loop-at
decreases-loop-at g l = l.at - l.place
