use Rattle.std.proofs.Common.{sym, subst, ◌∙◌}
use Rattle.claim_rule.specs.Tokens.{number_in}
use Rattle.ticket_commit.specs.Own.{AreOwnLists}
use Rattle.ticket_commit.proofs.OwnLemmas.{its_list, list_goes}
use Rattle.std.proofs.Common.{get_or, set}
use Rattle.ticket_commit.proofs.seats.TicketSeats.take.Goals as goal

-- src/seats.rt
pub invariant_of-result : goal.invariant_of-result
invariant_of-result g c =
    let seat = c.in_ok-seat.seat in
    let first = (c.in_ok-seat.ensures {u = tt}).first in
    let place = c.from.ensures ∙ c.caller.ensures in
    its_list g.D.Decider.verdict c.self.inside.seats c.self.inside.own.items c.self.invariant (number_in seat) seat first.0.there c.replace-own.result
    (c.replace-own.ensures.value ∙ c.index_mut.ensures.value ∙ (λ i. get_or c.self.inside.own.items (place i) (sym (c.replace-own.ensures.value) i)))

pub invariant_of-self-2 : goal.invariant_of-self-2
invariant_of-self-2 g c =
    let seat = c.in_ok-seat.seat in
    let first = (c.in_ok-seat.ensures {u = tt}).first in
    let place = sym (c.from.ensures ∙ c.caller.ensures) in
    subst (λ n. AreOwnLists g.D.Decider.verdict c.take.new.self (set c.self.inside.own.items n c.replace-own.new.dest)) place
    (list_goes g.D.Decider.verdict c.self.inside.seats c.self.inside.own.items c.self.invariant c.take.new.self (number_in seat) c.replace-own.new.dest first.1)
