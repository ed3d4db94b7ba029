use Rattle.claim_core.specs.Cores.{setup_of}
use Rattle.claim_core.proofs.Ranks.{total}
use Rattle.claim_core.proofs.RoundLemmas.{IsUnderway}
use Rattle.claim_core.proofs.machine.Core.finish.Given as goal

abbrev pub invariant-loop-self : goal.invariant-loop-self
invariant-loop-self g l = IsUnderway g.D.Decider.verdict l.fn.self l.self

abbrev pub decreases-loop-self : goal.decreases-loop-self
decreases-loop-self g l = total (setup_of g.D.Decider.verdict l.self) l.self.state
