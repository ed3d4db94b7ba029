use Rattle.run_sample.specs.Sample.{node_of}
use Rattle.run_sample.proofs.DirectionLemmas.{beyond, count}
use Rattle.run_sample.proofs.Near.{IsReached}
use Rattle.run_sample.proofs.amoebots.first_empty.Given as goal

abbrev pub invariant-loop-dir : goal.invariant-loop-dir
invariant-loop-dir l = IsReached l.bots (node_of l.bots l.index) l.dir l.node

abbrev pub decreases-loop-dir : goal.decreases-loop-dir
decreases-loop-dir l = count (beyond l.node l.dir)
