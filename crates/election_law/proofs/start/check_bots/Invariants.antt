use Rattle.election_law.specs.Starts.{AreReadyBelow}
use Rattle.election_law.proofs.start.check_bots.Given as goal

abbrev pub invariant-loop-id : goal.invariant-loop-id
invariant-loop-id l = AreReadyBelow l.world l.id
