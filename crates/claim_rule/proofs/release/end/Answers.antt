use Rattle.std.proofs.Common.{◌+◌, ap, sym, subst, ◌∙◌}
use Rattle.claim_rule.specs.declared.activation.Room.{Room}
use Rattle.claim_rule.specs.Tokens.{Token, IsSeat, doing, frame_of}
use Rattle.claim_rule.proofs.ActivationLemmas.{ends}
use Rattle.claim_rule.proofs.release.end.Goals as goal

pub invariant_of-result : goal.invariant_of-result
invariant_of-result g c =
    let m = c.freeing.inside.activation.seat.me in
    subst (λ (q : Room). IsSeat g.D.Decider.verdict m q.caller (q.turn + 1) (frame_of q.area q.maxes)) (sym c.deref_mut.ensures.value)
    (ends g.D.Decider.verdict g.W.Manner.way m _ _ _ _ _ _ _ c.freeing.invariant.0 _ c.freeing.invariant.1 (sym c.freeing.invariant.0.held ∙ ap (λ (t : Token _). (doing t).held) c.freeing.view_is ∙ c.requires.none))
