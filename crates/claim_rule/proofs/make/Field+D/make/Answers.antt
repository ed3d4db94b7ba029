use Rattle.std.proofs.Common.{◌≡◌, IfOk, sym, subst}
use Rattle.std.specs.Prelude.{IsSome}
use Rattle.std.specs.List.{All}
use Rattle.claim_rule.specs.Opened.{first_seats}
use Rattle.claim_rule.specs.Seating.{SeatsOf}
use Rattle.claim_rule.proofs.Beside.{put_beside}
use Rattle.claim_rule.proofs.Deals.{first_are_there}
use Rattle.claim_rule.proofs.make.Field+D.make.Goals as goal

-- src/make.rt
pub returns-clause-terms : goal.returns-clause-terms
returns-clause-terms g c = put_beside _ c.in_ok-field.field c.deal_all-seats.result c.beside-2.result c.beside-2.ensures (λ b e. c.in_ok-field.ensures.terms)

pub returns-clause-seats : goal.returns-clause-seats
returns-clause-seats g c =
    put_beside _ c.in_ok-field.field c.deal_all-seats.result c.beside-2.result c.beside-2.ensures
    (λ b e. subst (λ r. IfOk r (λ (s : SeatsOf g.row.D.Denot). s ≡ first_seats g.D.Decider.verdict c.in_ok-field.field)) e c.deal_all-seats.ensures)

pub returns-clause-all : goal.returns-clause-all
returns-clause-all g c =
    put_beside _ c.in_ok-field.field c.deal_all-seats.result c.beside-2.result c.beside-2.ensures
    (λ b e. subst (λ (s : SeatsOf g.row.D.Denot). All (λ o. IsSome o) s.seats) (sym (subst (λ r. IfOk r (λ (s : SeatsOf g.row.D.Denot). s ≡ first_seats g.D.Decider.verdict c.in_ok-field.field)) e c.deal_all-seats.ensures)) (first_are_there g.D.Decider.verdict _))
