use Rattle.std.proofs.Common.{subst}
use Rattle.claim_core.specs.Soundness.{IsSetup, Sound}
use Rattle.claim_core.specs.Cores.{setup_of}
use Rattle.claim_core.proofs.MachineLemmas.{is_sound, length-stepped}
use Rattle.claim_core.proofs.machine.Core.step.Goals as goal

pub returns-clause-callers : goal.returns-clause-callers
returns-clause-callers g c =
    let ok = subst (λ r. IsSetup (setup_of g.D.Decider.verdict r)) c.self.view_is c.self.invariant.setup in
    let sound = subst (λ r. Sound (setup_of g.D.Decider.verdict r) r.state) c.self.view_is (is_sound c.self.invariant) in
    length-stepped g.D.Decider.verdict c.args.caller c.args.self.now c.act.new.self ok sound c.act.ensures
