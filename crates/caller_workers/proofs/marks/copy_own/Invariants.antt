use Rattle.std.proofs.Common.{◌≡◌, map, take}
use Rattle.node_claims.specs.Answers.{mark_of}
use Rattle.caller_workers.specs.WorkerStates.{with_marks}
use Rattle.caller_workers.proofs.marks.copy_own.Given as goal

abbrev pub invariant-loop-answer : goal.invariant-loop-answer
invariant-loop-answer g l = l.marks ≡ with_marks l.fn.marks l.caller (map (λ answer. mark_of (g.T.TurnMaker.told answer)) (take l.answer-index l.own))
