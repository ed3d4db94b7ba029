use Rattle.std.proofs.Common.{length, ap, sym, ◌∙◌}
use Rattle.claim_rule.specs.declared.views.Terms.{Terms}
use Rattle.ticket_commit.proofs.OwnLemmas.{first_own_lists}
use Rattle.ticket_commit.proofs.field.TicketField.make.Goals as goal

-- src/field.rt
pub invariant_of-result : goal.invariant_of-result
invariant_of-result g c =
    let field = c.in_ok-field.field in
    let terms = c.in_ok-field.ensures.terms in
    first_own_lists g.D.Decider.verdict field c.in_ok-field.seats c.in_ok-field.ensures.seats c.in_ok-own.own.items c.turns.result
    (c.in_ok-own.ensures.count ∙ c.callers.ensures.value ∙ ap (λ (z : Terms g.row.D.Denot). length z.lists.ids) (sym terms))
    (c.turns.ensures ∙ ap (λ (z : Terms g.row.D.Denot). z.lists.turns) (sym terms))
    c.in_ok-own.ensures.each
