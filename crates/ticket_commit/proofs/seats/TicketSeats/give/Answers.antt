use Rattle.std.proofs.Common.{set, sym, subst, ◌∙◌}
use Rattle.claim_rule.specs.Tokens.{number_in}
use Rattle.ticket_commit.specs.Own.{AreOwnLists}
use Rattle.ticket_commit.proofs.OwnLemmas.{list_comes}
use Rattle.ticket_commit.proofs.seats.TicketSeats.give.Goals as goal

-- src/seats.rt
pub invariant_of-self : goal.invariant_of-self
invariant_of-self g c =
    let seat = c.seat.inside.seat in
    let place = sym (c.from.ensures ∙ c.caller.ensures) in
    subst (λ n. AreOwnLists g.D.Decider.verdict c.give.new.self (set c.self.inside.own.items n c.seat.inside.own)) place
    (list_comes g.D.Decider.verdict c.self.inside.seats c.self.inside.own.items c.self.invariant c.give.new.self (number_in seat) seat c.seat.inside.own c.seat.invariant c.give.ensures)
