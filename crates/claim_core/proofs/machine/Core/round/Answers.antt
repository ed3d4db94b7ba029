use Rattle.std.proofs.Common.{ap, subst, length, arith}
use Rattle.claim_core.specs.Soundness.{IsSetup, Sound}
use Rattle.claim_core.specs.Cores.{setup_of}
use Rattle.claim_core.proofs.MachineLemmas.{is_sound}
use Rattle.claim_core.proofs.RoundLemmas.{callers_there}
use Rattle.claim_core.proofs.machine.Core.round.Goals as goal

pub step-requires-after_bounds : goal.step-requires-after_bounds
step-requires-after_bounds g c =
    let ok = subst (λ r. IsSetup (setup_of g.D.Decider.verdict r)) c.self.view_is c.self.invariant.setup in
    let sound = subst (λ r. Sound (setup_of g.D.Decider.verdict r) r.state) c.self.view_is (is_sound c.self.invariant) in
    let many = callers_there g.D.Decider.verdict c.args.self.now c.loop-caller.self c.loop-caller.caller ok sound c.loop-caller.invariant in
    let lists = ap (λ r. length r.lists.ids) c.self.view_is in
    λ ks below. omega (arith, many, lists, c.callers-callers.ensures.value, c.loop-caller-test.true)
