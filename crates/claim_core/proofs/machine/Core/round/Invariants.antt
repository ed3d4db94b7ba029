use Rattle.std.proofs.Common.{◌≡◌}
use Rattle.claim_core.specs.StepRounds.{steps_below}
use Rattle.claim_core.specs.Cores.{setup_of}
use Rattle.claim_core.proofs.machine.Core.round.Given as goal

abbrev pub invariant-loop-caller : goal.invariant-loop-caller
invariant-loop-caller g l = l.self ≡ record l.fn.self { state = steps_below (setup_of g.D.Decider.verdict l.fn.self) l.caller l.fn.self.state }
