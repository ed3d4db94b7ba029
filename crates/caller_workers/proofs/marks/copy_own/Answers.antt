use Rattle.std.proofs.Common.{◌<◌, length, arith}
use Rattle.node_claims.specs.Answers.{mark_of}
use Rattle.caller_workers.proofs.MarkCopies.{one_more}
use Rattle.caller_workers.proofs.marks.copy_own.Goals as goal

-- src/marks.rt
pub loop-answer-preserved : goal.loop-answer-preserved
loop-answer-preserved g c = one_more (λ answer. mark_of (g.T.TurnMaker.told answer)) c.args.marks.now c.loop-answer.marks c.add.new.self c.args.caller c.args.own.now c.loop-answer.answer-index c.answer-item.result c.mark.result c.requires.caller (let lt : c.loop-answer.answer-index < length c.args.own.now = omega (arith, c.loop-answer-test.true) in lt) c.loop-answer.invariant c.answer-item.is c.mark.ensures c.add.ensures
