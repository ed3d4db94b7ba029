use Rattle.std.proofs.Common.{reverse, sym, subst}
use Rattle.claim_rule.specs.declared.activation.Room.{Room}
use Rattle.claim_rule.specs.Plays.{IsToRead}
use Rattle.claim_rule.specs.Tokens.{KeepsRoom, IsFreeing}
use Rattle.claim_rule.proofs.ActivationLemmas.{marks}
use Rattle.claim_rule.proofs.stopped.refuse.Goals as goal

pub invariant_of-result : goal.invariant_of-result
invariant_of-result g c =
    let m = c.place-place.new.seat.me in
    subst (λ (q : Room). KeepsRoom g.D.Decider.verdict g.W.Manner.way m q × IsFreeing g.D.Decider.verdict m q.turn (reverse q.cells) c.place-place.result) (sym c.deref_mut-room.ensures.value)
    (marks g.D.Decider.verdict g.W.Manner.way c.stopped.inside.activation.seat.me _ _ _ _ _ _ _ c.stopped.invariant.0 m c.place-place.result c.stopped.invariant.1.turn c.stopped.invariant.1.counted
    (subst IsToRead (sym c.stopped.invariant.1.phase) tt) c.place-place.ensures.few c.place-place.ensures.marked c.place-place.ensures.out)
