use Rattle.std.proofs.Common.{ap, sym, subst, ◌∙◌}
use Rattle.claim_rule.specs.declared.activation.Room.{Room}
use Rattle.claim_rule.specs.Plays.{IsToRead}
use Rattle.claim_rule.specs.Tokens.{Token, KeepsRoom, KeepsFound, doing}
use Rattle.claim_rule.proofs.ActivationLemmas.{looked}
use Rattle.claim_rule.proofs.claimed.look.Goals as goal

pub invariant_of-claimed : goal.invariant_of-claimed
invariant_of-claimed g c =
    let m = c.place-place.new.seat.me in
    let was = c.claimed.invariant.1 in
    let now = looked g.D.Decider.verdict g.W.Manner.way c.claimed.inside.activation.seat.me _ _ _ _ _ _ _ c.claimed.invariant.0 m c.place-place.result _ was.told was.whole
    (subst IsToRead (sym (ap (λ (t : Token _). (doing t).phase) c.claimed.view_is ∙ c.requires.looks.1)) tt) c.place-place.ensures.few c.place-place.ensures.marked c.place-place.ensures.out in
    subst (λ (q : Room). let looked_at : Room = record q { after = c.place-place.result } in KeepsRoom g.D.Decider.verdict g.W.Manner.way m looked_at × KeepsFound g.D.Decider.verdict m looked_at) (sym c.deref_mut-room.ensures.value) (now.0, record { told = was.told; kept = was.kept; whole = now.1 })
