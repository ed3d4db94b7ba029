use Rattle.std.proofs.Common.{◌≡◌, length}
use Rattle.run_sample.specs.Sample.{Placed}
use Rattle.run_sample.proofs.amoebots.amoebots.Given as goal

abbrev pub invariant-loop-id : goal.invariant-loop-id
invariant-loop-id l = record { placed : Placed l.seed l.bots.items l.generator; many : l.id ≡ length l.bots.items }
