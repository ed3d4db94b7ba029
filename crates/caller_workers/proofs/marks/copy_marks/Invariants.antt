use Rattle.std.proofs.Common.{map}
use Rattle.node_claims.specs.Answers.{mark_of}
use Rattle.caller_workers.proofs.MarkCopies.{AreFilled}
use Rattle.caller_workers.proofs.marks.copy_marks.Given as goal

abbrev pub invariant-loop-own : goal.invariant-loop-own
invariant-loop-own g l = AreFilled (λ answer. mark_of (g.T.TurnMaker.told answer)) (map (λ v. v.items) l.turns) l.fn.marks l.marks l.own-index l.caller
