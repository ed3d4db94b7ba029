use Rattle.std.proofs.Common.{◌≡◌, Some, reverse, ap, sym, subst, refl, ◌∙◌}
use Rattle.amoebot_state.specs.Zones.{IsShown}
use Rattle.claim_rule.specs.declared.activation.Room.{Room}
use Rattle.claim_rule.specs.Internal.{shown_in}
use Rattle.claim_rule.specs.Tokens.{KeepsFound, KeepsRoom, KnowsTurn, next_in}
use Rattle.claim_rule.proofs.ActivationLemmas.{whole_is_shown, whole_is_held}
use Rattle.claim_rule.proofs.claimed.seal.Goals as goal

pub seal-requires-clause-knows : goal.seal-requires-clause-knows
seal-requires-clause-knows g c = subst KnowsTurn (sym c.deref_mut.ensures.value) c.held.invariant.2

pub seal-requires-clause-whole : goal.seal-requires-clause-whole
seal-requires-clause-whole g c =
    let r = c.held.inside.activation.room.value in
    subst (λ (q : Room). IsShown (shown_in q)) (sym c.deref_mut.ensures.value)
    (whole_is_shown g.D.Decider.verdict g.W.Manner.way c.held.inside.activation.seat.me _ _ _ _ _ (reverse r.cells) _ c.held.invariant.0 r.cells r.walls.items c.held.invariant.1 refl c.held.invariant.3 (ap (next_in g.D.Decider.verdict) c.held.view_is ∙ c.requires.whole))

pub invariant_of-result : goal.invariant_of-result
invariant_of-result g c =
    let m = c.held.inside.activation.seat.me in
    let r = c.held.inside.activation.room.value in
    let new = c.seal.new.self in
    let now = c.seal.ensures.same ∙ ap (λ (q : Room). record q { found = new.found }) c.deref_mut.ensures.value in
    let kept : new.found ≡ Some (shown_in r) = c.seal.ensures.found ∙ ap (λ (q : Room). Some (shown_in q)) c.deref_mut.ensures.value in
    let whole = whole_is_held g.D.Decider.verdict g.W.Manner.way m _ _ _ _ _ (reverse r.cells) _ c.held.invariant.0 r.cells r.walls.items r.after c.held.invariant.1 refl c.held.invariant.3 (ap (next_in g.D.Decider.verdict) c.held.view_is ∙ c.requires.whole) in
    subst (λ (q : Room). KeepsRoom g.D.Decider.verdict g.W.Manner.way m q × KeepsFound g.D.Decider.verdict m q) (sym now) (c.held.invariant.0, record { told = shown_in r; kept = kept; whole = whole })
