use Rattle.std.proofs.Common.{◌≡◌, length, take}
use Rattle.document_answers.proofs.Interleavings.{led}
use Rattle.document_answers.proofs.interleave.step_all.Given as goal

abbrev pub invariant-loop-number : goal.invariant-loop-number
invariant-loop-number g l = (l.core ≡ led g.D.Decider.verdict (take l.number l.schedule) l.fn.core) × (length l.core.state.callers ≡ length l.fn.core.state.callers)
