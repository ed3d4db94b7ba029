use Rattle.std.proofs.Common.{◌≡◌, ◌∙◌, List, ap, sym, subst}
use mathlib.Core.Option.{some}
use lib.ListN.{get_elem?}
use Rattle.std.specs.Slots.{slots_items}
use Rattle.amoebot_state.specs.declared.verdict.Entry.{Entry}
use Rattle.amoebot_state.specs.Configs.{Config}
use Rattle.amoebot_state.specs.Steps.{Run}
use Rattle.claim_rule.specs.Manners.{by_journal}
use Rattle.claim_rule.specs.declared.views.Slot.TheVariants as slot
use Rattle.claim_rule.specs.Stands.{journal_slot}
use Rattle.claim_rule.specs.Closing.{ClosesAs, HoldNothing}
use Rattle.claim_rule.proofs.Closes.{seats_of, journal_there, entries_run, listed, rests, closes}
use Rattle.claim_rule.proofs.Leaves.{field_ends_right}
use Rattle.claim_rule.proofs.close.Field+D.close.Given.{Over}
use Rattle.claim_rule.proofs.close.Field+D.close.Goals.{After-from-bodies, After-entries, After-apply_entries}
use Rattle.claim_rule.proofs.close.Field+D.close.Goals as goal

-- src/close.rt
pub gather_all-rest-requires-clause-seats : goal.gather_all-rest-requires-clause-seats
gather_all-rest-requires-clause-seats g c = λ κs within.
    seats_of g.D.Decider.verdict c.args.self c.seats.inside.rest.me c.seats.inside.rest.table_id c.seats.inside.seats.items c.seats.invariant c.args.seats c.seats.view_is c.requires.field

-- the number of the journal's slot
place : (g : Over) (c : After-from-bodies g) → c.from-bodies.result ≡ journal_slot c.args.self.terms.world
place g c = c.from-bodies.ensures ∙ c.bots.ensures.value ∙ ap (λ (w : Config). journal_slot w) c.give_back-closed.ensures.world

pub journal_of-journal-requires-clause-journal : goal.journal_of-journal-requires-clause-journal
journal_of-journal-requires-clause-journal g c =
    let there = journal_there g.D.Decider.verdict c.args.self c.seats.inside.rest.me c.seats.inside.rest.table_id c.seats.inside.seats.items c.seats.invariant c.args.seats c.seats.view_is c.requires.field
    c.give_back-closed.ensures.run c.requires.all _ _ c.gather_all-rest.ensures.1 _ _ c.give_back-closed.ensures.ends in
    (there.0, ap (get_elem? (slots_items c.give_back-closed.result.0.slots)) (place g (goal.at.journal_of-journal-requires-clause-journal g c).After-from-bodies) ∙ there.1)

-- the journal is in its slot
journal : (g : Over) (c : After-entries g) → get_elem? (slots_items c.give_back-closed.result.0.slots) (journal_slot c.args.self.terms.world) ≡ some (slot.Journal c.journal_of-journal.result)
journal g c = ap (get_elem? (slots_items c.give_back-closed.result.0.slots)) (sym (place g (goal.at.apply_entries-requires-after_bounds g c).After-from-bodies)) ∙ c.journal_of-journal.ensures

pub apply_entries-requires-after_bounds : goal.apply_entries-requires-after_bounds
apply_entries-requires-after_bounds g c = λ κs within.
    let back = c.give_back-closed.ensures in
    let run = entries_run g.D.Decider.verdict c.args.self c.seats.inside.rest.me c.seats.inside.rest.table_id c.seats.inside.seats.items c.seats.invariant c.args.seats c.seats.view_is c.requires.field
    back.run c.requires.all _ _ c.gather_all-rest.ensures.1 _ _ back.ends c.journal_of-journal.result (journal g c) in
    (run.0, subst (λ (q : g.row.D.Denot × Config × List Entry). Run (g.D.Decider.verdict q.0) q.1 q.2 run.0) (λ i. (sym back.decider i, sym back.world i, sym c.entries.ensures i)) run.1)

-- what the field leaves
ends : (g : Over) (c : After-apply_entries g) → ClosesAs by_journal g.D.Decider.verdict c.args.self.terms c.args.seats.seats c.apply_entries.new.world c.journal_of-journal.result
ends g c =
    let back = c.give_back-closed.ensures in
    closes g.D.Decider.verdict c.args.self c.seats.inside.rest.me c.seats.inside.rest.table_id c.seats.inside.seats.items c.seats.invariant c.args.seats c.seats.view_is c.requires.field
    back.run c.requires.all _ _ c.gather_all-rest.ensures.1 _ _ back.ends c.journal_of-journal.result c.apply_entries.new.world (journal g (goal.at.returns-clause-closes g c).After-entries)
    (subst (λ (q : g.row.D.Denot × Config × List Entry). Run (g.D.Decider.verdict q.0) q.1 q.2 c.apply_entries.new.world) (λ i. (back.decider i, back.world i, c.entries.ensures i)) c.apply_entries.ensures)

-- the seats
rest : (g : Over) (c : After-apply_entries g) → HoldNothing c.args.seats.seats
rest g c =
    rests g.D.Decider.verdict c.args.self c.seats.inside.rest.me c.seats.inside.rest.table_id c.seats.inside.seats.items c.seats.invariant c.args.seats c.seats.view_is c.requires.field
    c.give_back-closed.ensures.run c.requires.all _ _ c.gather_all-rest.ensures.1 _ _ c.give_back-closed.ensures.ends

pub returns-clause-closes : goal.returns-clause-closes
returns-clause-closes g c = ends g c

pub returns-clause-rests : goal.returns-clause-rests
returns-clause-rests g c = rest g c

pub returns-clause-right : goal.returns-clause-right
returns-clause-right g c =
    let back = c.give_back-closed.ensures in
    let count = listed g.D.Decider.verdict c.args.self c.seats.inside.rest.me c.seats.inside.rest.table_id c.seats.inside.seats.items c.seats.invariant c.args.seats c.seats.view_is c.requires.field
    back.run c.requires.all _ _ c.gather_all-rest.ensures.1 _ _ back.ends in
    field_ends_right by_journal g.D.Decider.verdict c.args.self.terms c.args.seats.seats c.apply_entries.new.world c.journal_of-journal.result back.run count c.requires.all (rest g c) (ends g c)
