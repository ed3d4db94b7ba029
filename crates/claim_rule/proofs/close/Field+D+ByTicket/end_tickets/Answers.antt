use Rattle.std.proofs.Common.{ap, sym, ◌∙◌}
use Rattle.amoebot_state.specs.Configs.{Config}
use Rattle.claim_core.specs.Cells.{cells}
use Rattle.claim_rule.specs.Manners.{by_ticket}
use Rattle.claim_rule.proofs.Closes.{seats_of, leaves, rest_nothing}
use Rattle.claim_rule.proofs.close.Field+D+ByTicket.end_tickets.Goals as goal

-- src/close.rt
pub gather_all-rest-requires-clause-seats : goal.gather_all-rest-requires-clause-seats
gather_all-rest-requires-clause-seats g c = λ κs within.
    seats_of g.D.Decider.verdict c.args.self c.seats.inside.rest.me c.seats.inside.rest.table_id c.seats.inside.seats.items c.seats.invariant c.args.seats c.seats.view_is c.requires.field

pub drop_slots-requires-clause-count : goal.drop_slots-requires-clause-count
drop_slots-requires-clause-count g c = c.give_back-closed.ensures.count ∙ ap (λ (w : Config). cells w) (sym c.give_back-closed.ensures.world) ∙ sym c.cells_of-count.ensures.value

pub returns-clause-leaves : goal.returns-clause-leaves
returns-clause-leaves g c =
    leaves g.D.Decider.verdict c.args.self c.seats.inside.rest.me c.seats.inside.rest.table_id c.seats.inside.seats.items c.seats.invariant c.args.seats c.seats.view_is c.requires.field by_ticket _ _ c.gather_all-rest.ensures.1 _ _ c.give_back-closed.ensures.ends

pub returns-clause-rests : goal.returns-clause-rests
returns-clause-rests g c =
    rest_nothing g.D.Decider.verdict c.args.self c.seats.inside.rest.me c.seats.inside.rest.table_id c.seats.inside.seats.items c.seats.invariant c.args.seats c.seats.view_is c.requires.field c.requires.all c.gather_all-rest.ensures.1.0 c.gather_all-rest.ensures.1.2
