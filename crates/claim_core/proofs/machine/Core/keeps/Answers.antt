use Rattle.std.proofs.Common.{subst}
use Rattle.claim_core.specs.Soundness.{IsSetup, Sound}
use Rattle.claim_core.specs.Reached.{IsReachedState}
use Rattle.claim_core.specs.Cores.{setup_of}
use Rattle.claim_core.proofs.MachineLemmas.{is_sound}
use Rattle.claim_core.proofs.machine.Core.keeps.Goals as goal

pub returns-clause-setup : goal.returns-clause-setup
returns-clause-setup g c = subst (λ r. IsSetup (setup_of g.D.Decider.verdict r)) c.self.view_is c.self.invariant.setup

pub returns-clause-reached : goal.returns-clause-reached
returns-clause-reached g c = subst (λ r. IsReachedState (setup_of g.D.Decider.verdict r) r.state) c.self.view_is (record { steps = c.self.invariant.steps; led = c.self.invariant.reached })

pub returns-clause-sound : goal.returns-clause-sound
returns-clause-sound g c = subst (λ r. Sound (setup_of g.D.Decider.verdict r) r.state) c.self.view_is (is_sound c.self.invariant)

pub returns-clause-callers : goal.returns-clause-callers
returns-clause-callers g c = (returns-clause-sound g c).callers
