use Rattle.std.proofs.Common.{Some, set, ap, sym, ◌∙◌, subst}
use Rattle.claim_rule.specs.declared.activation.Room.{Room}
use Rattle.claim_rule.specs.Views.{Seated}
use Rattle.claim_rule.specs.Tokens.{Token, number_in}
use Rattle.claim_rule.specs.Seating.{SeatsOf, AreSeats}
use Rattle.claim_rule.proofs.SeatsLemmas.{taken_back}
use Rattle.claim_rule.proofs.seats.Seats.give.Goals as goal

-- src/seats.rt
pub invariant_of-self : goal.invariant_of-self
invariant_of-self g c =
    let place = ap (λ (t : Token g.row.D.Denot). number_in t) (sym c.seat.view_is) ∙ c.seat.invariant.number ∙ ap (λ (q : Room). q.caller) (sym c.deref.ensures) ∙ sym c.from-place.ensures in
    subst (λ n. AreSeats c.self.inside.rest.me c.self.inside.rest.table_id (set c.self.inside.seats.items n (Some c.args.seat))) place
    (taken_back c.self.inside.rest.me c.self.inside.rest.table_id c.self.inside.seats.items c.self.invariant c.args.seat
    (c.requires.field.0 ∙ ap (λ (s : SeatsOf g.row.D.Denot). s.table) (sym c.self.view_is))
    (c.requires.field.1 ∙ ap (λ (s : SeatsOf g.row.D.Denot). s.terms) (sym c.self.view_is) ∙ ap (λ (m : Seated g.row.D.Denot). m.0.terms) c.self.invariant.dealt))
