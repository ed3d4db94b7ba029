use Rattle.std.proofs.Common.{◌≡◌, ◌++◌, List, Some, IsSome, map, ap, sym, subst, ◌∙◌}
use Rattle.std.specs.List.{All}
use Rattle.amoebot_state.specs.declared.verdict.Entry.{Entry}
use Rattle.amoebot_state.specs.Configs.{Config}
use Rattle.amoebot_state.specs.Steps.{Run}
use Rattle.claim_core.specs.Merges.{IsMerge}
use Rattle.claim_core.specs.Tickets.{ticket_after}
use Rattle.claim_rule.specs.Views.{setup_of_terms}
use Rattle.claim_rule.specs.Manners.{by_ticket}
use Rattle.claim_rule.specs.Tokens.{FieldOf}
use Rattle.claim_rule.specs.Seating.{SeatsOf}
use Rattle.claim_rule.specs.Closing.{ClosesAs, EndsRight}
use Rattle.claim_rule.proofs.Leaves.{field_ends_right}
use Rattle.ticket_commit.specs.OwnLists.{OwnEntries, entry_lists, HasMerge}
use Rattle.ticket_commit.specs.Own.{own_at_seat}
use Rattle.ticket_commit.proofs.TicketEnds.{count, merge_is, merge_at_seats, has_merge, closes}
use Rattle.ticket_commit.proofs.field.TicketField.close.Given.{Over}
use Rattle.ticket_commit.proofs.field.TicketField.close.Goals.{After-as_mut_slice, After-merge}
use Rattle.ticket_commit.proofs.field.TicketField.close.Goals as goal

-- src/close.rt

-- the seats are the field's, and all are there
its : (g : Over) (c : After-as_mut_slice g) → c.seats.inside.seats.terms ≡ Some c.self.inside.field.terms
its g c = ap (λ (s : SeatsOf g.row.D.Denot). s.terms) c.seats.view_is ∙ c.requires.field.terms ∙ ap (λ (f : FieldOf g.row.D.Denot). Some f.terms) (sym c.self.view_is)

all : (g : Over) (c : After-as_mut_slice g) → All (λ seat. IsSome seat) c.seats.inside.seats.seats
all g c = subst (λ (s : SeatsOf g.row.D.Denot). All (λ seat. IsSome seat) s.seats) (sym c.seats.view_is) c.requires.all

pub merge-requires-after_bounds : goal.merge-requires-after_bounds
merge-requires-after_bounds g c = λ κs within.
    let at = (goal.at.merge-requires-after_bounds g c).After-as_mut_slice in
    let end = c.end_tickets-world.ensures in
    subst (λ (q : g.row.D.Denot × Config × List OwnEntries). HasMerge (g.D.Decider.verdict q.0) q.1 (entry_lists q.2) c.self.inside.journal.spare) (λ i. (sym end.decider i, sym end.world i, sym c.as_mut_slice.ensures.value i))
    (has_merge g.D.Decider.verdict c.self.inside.field.terms end.run c.seats.inside.seats (its g at) (all g at) end.leaves c.seats.inside.own.items c.seats.invariant c.self.inside.journal.spare c.self.invariant.room)

-- what was merged is the journal of the state that the callers have come to
abbrev journal : (g : Over) → After-merge g → List Entry
journal g c = (ticket_after (setup_of_terms g.D.Decider.verdict c.self.inside.field.terms) c.end_tickets-world.ensures.leaves.steps).journal

module _ (g : Over) (c : After-merge g) (terms : c.seats.inside.seats.terms ≡ Some c.self.inside.field.terms) (there : All (λ seat. IsSome seat) c.seats.inside.seats.seats) where
  is_merge : IsMerge (entry_lists c.as_mut_slice.result.now) (journal g c)
  is_merge =
      let end = c.end_tickets-world.ensures in
      subst (λ (lists : List OwnEntries). IsMerge (entry_lists lists) (journal g c)) (sym c.as_mut_slice.ensures.value)
      (merge_is g.D.Decider.verdict c.self.inside.field.terms end.run c.seats.inside.seats terms there end.leaves c.seats.inside.own.items c.seats.invariant)

  entries : c.merge.new.journal.entries ≡ journal g c
  entries = c.merge.ensures.entries (journal g c) is_merge ∙ ap (λ (es : List Entry). es ++ journal g c) c.self.invariant.none

  -- what the field leaves
  ends : ClosesAs by_ticket g.D.Decider.verdict c.self.inside.field.terms c.seats.inside.seats.seats c.merge.new.world c.merge.new.journal
  ends =
      let end = c.end_tickets-world.ensures in
      closes g.D.Decider.verdict c.self.inside.field.terms end.run c.seats.inside.seats terms there end.leaves c.seats.inside.own.items c.seats.invariant
      c.merge.new.journal (c.merge.ensures.first ∙ c.self.invariant.first) entries c.merge.new.world
      (subst (λ (q : g.row.D.Denot × Config). Run (g.D.Decider.verdict q.0) q.1 (journal g c) c.merge.new.world) (λ i. (end.decider i, end.world i)) (c.merge.ensures.world (journal g c) is_merge))

pub returns-clause-closes : goal.returns-clause-closes
returns-clause-closes g c =
    let at = goal.at.returns-clause-closes g c in
    subst (λ (p : FieldOf g.row.D.Denot × SeatsOf g.row.D.Denot). ClosesAs by_ticket g.D.Decider.verdict p.0.terms p.1.seats c.merge.new.world c.merge.new.journal) (λ i. (c.self.view_is i, c.seats.view_is i))
    (ends g at.After-merge (its g at.After-as_mut_slice) (all g at.After-as_mut_slice))

pub returns-clause-merged : goal.returns-clause-merged
returns-clause-merged g c =
    let at = goal.at.returns-clause-merged g c in
    let end = c.end_tickets-world.ensures in
    let is = merge_at_seats g.D.Decider.verdict c.self.inside.field.terms end.run c.seats.inside.seats (its g at.After-as_mut_slice) (all g at.After-as_mut_slice) end.leaves c.seats.inside.own.items c.seats.invariant in
    subst (λ (p : SeatsOf g.row.D.Denot × List Entry). IsMerge (map own_at_seat p.0.seats) p.1) (λ i. (c.seats.view_is i, sym (entries g at.After-merge (its g at.After-as_mut_slice) (all g at.After-as_mut_slice)) i)) is

pub returns-clause-right : goal.returns-clause-right
returns-clause-right g c =
    let at = goal.at.returns-clause-right g c in
    let end = c.end_tickets-world.ensures in
    let many = count g.D.Decider.verdict c.self.inside.field.terms end.run c.seats.inside.seats (its g at.After-as_mut_slice) (all g at.After-as_mut_slice) end.leaves c.seats.inside.own.items c.seats.invariant in
    subst (λ (p : FieldOf g.row.D.Denot × SeatsOf g.row.D.Denot). EndsRight g.D.Decider.verdict p.0.terms p.1.seats c.merge.new.world c.merge.new.journal) (λ i. (c.self.view_is i, c.seats.view_is i))
    (field_ends_right by_ticket g.D.Decider.verdict c.self.inside.field.terms c.seats.inside.seats.seats c.merge.new.world c.merge.new.journal end.run many (all g at.After-as_mut_slice) end.rests (ends g at.After-merge (its g at.After-as_mut_slice) (all g at.After-as_mut_slice)))
