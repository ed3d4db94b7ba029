use Rattle.std.proofs.Common.{◌≡◌, subst, refl}
use Rattle.std.proofs.lemmas.Bool.{false≢true}
use Rattle.claim_core.specs.Machine.{after}
use Rattle.claim_core.specs.Soundness.{IsSetup}
use Rattle.claim_core.specs.Cores.{setup_of}
use Rattle.claim_core.proofs.RoundLemmas.{goes_on, lowers, same_callers, finishes}
use Rattle.claim_core.proofs.machine.Core.finish.Goals as goal

pub loop-self-preserved : goal.loop-self-preserved
loop-self-preserved g c = goes_on g.D.Decider.verdict c.args.self.now c.loop-self.self c.round.new.self c.loop-self.invariant (λ e. false≢true (c.loop-self-test.ensures.1 e)) c.round.ensures

pub loop-self-smaller : goal.loop-self-smaller
loop-self-smaller g c =
    let ok = subst (λ r. IsSetup (setup_of g.D.Decider.verdict r)) c.self.view_is c.self.invariant.setup in
    let reached = subst (λ r. r.state ≡ after (setup_of g.D.Decider.verdict r) c.self.invariant.steps) c.self.view_is c.self.invariant.reached in
    lowers g.D.Decider.verdict c.args.self.now ok c.self.invariant.steps reached c.loop-self.self c.round.new.self c.loop-self.invariant (λ e. false≢true (c.loop-self-test.ensures.1 e)) c.round.ensures

pub returns-clause-finished : goal.returns-clause-finished
returns-clause-finished g c =
    let ok = subst (λ r. IsSetup (setup_of g.D.Decider.verdict r)) c.self.view_is c.self.invariant.setup in
    let reached = subst (λ r. r.state ≡ after (setup_of g.D.Decider.verdict r) c.self.invariant.steps) c.self.view_is c.self.invariant.reached in
    finishes g.D.Decider.verdict c.args.self.now ok c.self.invariant.steps reached c.loop-self.self c.loop-self.invariant (c.loop-self-test.ensures.0 refl)

pub returns-clause-callers : goal.returns-clause-callers
returns-clause-callers g c =
    let ok = subst (λ r. IsSetup (setup_of g.D.Decider.verdict r)) c.self.view_is c.self.invariant.setup in
    let reached = subst (λ r. r.state ≡ after (setup_of g.D.Decider.verdict r) c.self.invariant.steps) c.self.view_is c.self.invariant.reached in
    same_callers g.D.Decider.verdict c.args.self.now ok c.self.invariant.steps reached c.loop-self.self c.loop-self.invariant
