use Rattle.std.proofs.Common.{◌≡◌, ◌++◌, ℕ, List, Vec, Global, length, map, take, drop, ap, sym, ◌∙◌, subst}
use Rattle.std.specs.List.{All}
use Rattle.std.proofs.lemmas.List.{length-map}
use Rattle.claim_core.specs.Good.{Good}
use Rattle.claim_core.specs.Reached.{Reached}
use Rattle.claim_core.specs.Soundness.{IsSetup}
use Rattle.claim_core.specs.Turns.{MarkLists, AreFew, no_marks}
use Rattle.claim_rule.specs.declared.views.Terms.{Terms}
use Rattle.claim_rule.specs.Seating.{SeatsOf}
use Rattle.claim_rule.specs.Tokens.{Token}
use Rattle.claim_rule.specs.Views.{setup_of_terms, field_terms}
use Rattle.claim_rule.specs.declared.manner.ByJournal.{ByJournal}
use Rattle.node_claims.specs.declared.turn.Turn.{Turn}
use Rattle.caller_workers.specs.Turns.{AreTurnsOf, lists_told, marks_in}
use Rattle.caller_workers.specs.WorkerStates.{AreClear, AreTaken, AreAllMade, HaveMade, seat_at, turns_at}
use Rattle.caller_workers.proofs.MadeTurns.{first_have, are_taken, all_turns, are_made, told_is, written, as_many}
use Rattle.turn_workers.proofs.WorkEnds.{is_report}
use Rattle.turn_workers.proofs.all_turns.work.Given.{Over}
use Rattle.turn_workers.proofs.all_turns.work.Goals.{After-activate_all, After-copy_marks, After-of}
use Rattle.turn_workers.proofs.all_turns.work.Goals as goal

-- src/working.rt

abbrev itself : (g : Over) → Token g.row.D.Denot → Token g.row.D.Denot
itself g seat = seat

abbrev turn_itself : Turn ByJournal → Turn ByJournal
turn_itself turn = turn

-- once all turns are made: the terms of the field, and the states, as many as callers, each as its last turn left it
terms : (g : Over) (c : After-activate_all g) → c.in_ok-field.field.terms ≡ field_terms c.args.decider.now c.args.world c.args.lists.now
terms g c = c.in_ok-field.ensures.terms

turns_are : (g : Over) (c : After-activate_all g) → c.args.lists.now.turns ≡ c.in_ok-field.field.terms.lists.turns
turns_are g c = ap (λ (z : Terms g.row.D.Denot). z.lists.turns) (sym (terms g c))

count : (g : Over) (c : After-activate_all g) → length c.activate_all.new.states ≡ length c.in_ok-states.states.items
count g c = c.activate_all.ensures.count ∙ ap (λ (ds : List _). length ds) c.as_mut_slice.ensures.value

whole : (g : Over) (c : After-activate_all g) → take c.in_ok-states.states.len (c.activate_all.new.states ++ drop (length c.activate_all.new.states) c.in_ok-states.states.items) ≡ c.activate_all.new.states
whole g c = written c.activate_all.new.states c.in_ok-states.states.items c.in_ok-states.states.len (count g c) c.in_ok-states.states.ok.0

callers : (g : Over) (c : After-activate_all g) → length c.activate_all.new.states ≡ length c.in_ok-field.field.terms.lists.ids
callers g c = count g c ∙ as_many g.D.Decider.verdict (itself g) c.in_ok-field.field c.turns-2.result c.in_ok-field.seats c.in_ok-states.states.items c.in_ok-states.ensures.states c.in_ok-field.ensures.seats

of_marks : (g : Over) (c : After-activate_all g) → c.in_ok-marks.marks.turns ≡ c.args.lists.now.turns
of_marks g c = ap (λ (m : MarkLists). m.turns) c.in_ok-marks.ensures ∙ c.turns.ensures

-- what became of the turns is what is kept of the states
kept : (g : Over) (c : After-activate_all g) (turns : List (List (Turn ByJournal))) → turns ≡ map (turns_at turn_itself) (take c.in_ok-states.states.len (c.activate_all.new.states ++ drop (length c.activate_all.new.states) c.in_ok-states.states.items))
    → turns ≡ map (turns_at turn_itself) c.activate_all.new.states
kept g c turns are = are ∙ ap (map (turns_at turn_itself)) (whole g c)

-- of as many callers as there are
number : (g : Over) (c : After-activate_all g) (answers : List (Vec (Turn ByJournal) Global)) → lists_told turn_itself answers ≡ map (turns_at turn_itself) c.activate_all.new.states → length answers ≡ length c.args.lists.now.ids
number g c answers are =
    sym (length-map answers (λ own. map turn_itself own.items)) ∙ ap (λ (ts : List (List (Turn ByJournal))). length ts) are
    ∙ length-map c.activate_all.new.states (turns_at turn_itself) ∙ callers g c ∙ ap (λ (z : Terms g.row.D.Denot). length z.lists.ids) (terms g c)

pub activate_all-requires-clause-before : goal.activate_all-requires-clause-before
activate_all-requires-clause-before g c κs within =
    let f = c.in_ok-field.field in
    let states = c.in_ok-states.states.items in
    let its : f.terms ≡ field_terms c.args.decider.now c.args.world c.args.lists.now = c.in_ok-field.ensures.terms in
    let turns : c.turns-2.result ≡ f.terms.lists.turns = c.turns-2.ensures ∙ ap (λ (z : Terms g.row.D.Denot). z.lists.turns) (sym its) in
    let clear = subst (λ (p : ℕ × SeatsOf g.row.D.Denot). AreClear (itself g) p.0 p.1.seats states) (λ i. (turns i, c.in_ok-field.ensures.seats i)) c.in_ok-states.ensures.states in
    subst (HaveMade g.D.Decider.verdict (itself g) turn_itself f 0) (sym c.as_mut_slice.ensures.value) (first_have g.D.Decider.verdict (itself g) turn_itself f states clear)

pub clear-turns-requires-clause-taken : goal.clear-turns-requires-clause-taken
clear-turns-requires-clause-taken g c κs within =
    let at = (goal.at.clear-turns-requires-clause-taken g c).After-activate_all in
    let out = c.in_ok-states.ensures.out in
    let seats = c.in_ok-field.ensures.seats in
    subst (AreTaken (itself g) c.seat_all.new.seats) (sym (whole g at))
    (are_taken g.D.Decider.verdict (itself g) turn_itself c.in_ok-field.field c.args.lists.now.turns (turns_are g at) c.activate_all.new.states c.activate_all.ensures.after c.seat_all.new.seats
    (ap (λ (s : SeatsOf g.row.D.Denot). s.table) out ∙ ap (λ (s : SeatsOf g.row.D.Denot). s.table) seats) (ap (λ (s : SeatsOf g.row.D.Denot). s.terms) out ∙ ap (λ (s : SeatsOf g.row.D.Denot). s.terms) seats)
    c.in_ok-states.states.items (ap (λ (s : SeatsOf g.row.D.Denot). s.seats) out) (sym (count g at)))

pub copy_marks-requires-clause-few : goal.copy_marks-requires-clause-few
copy_marks-requires-clause-few g c κs within =
    let at = (goal.at.copy_marks-requires-clause-few g c).After-activate_all in
    let answers = c.clear-turns.result.items in
    let same = ap (λ (vs : List _). length vs) c.as_slice.ensures.value ∙ number g at answers (kept g at (lists_told turn_itself answers) c.clear-turns.ensures.turns) in
    subst (λ (p : ℕ × ℕ). AreFew p.0 p.1) (λ i. (sym same i, sym (of_marks g at) i)) c.callers.ensures.lists.few

pub copy_marks-requires-clause-all : goal.copy_marks-requires-clause-all
copy_marks-requires-clause-all g c κs within =
    let at = (goal.at.copy_marks-requires-clause-all g c).After-activate_all in
    let made = ap (lists_told turn_itself) c.as_slice.ensures.value ∙ kept g at (lists_told turn_itself c.clear-turns.result.items) c.clear-turns.ensures.turns in
    subst (λ (p : ℕ × List (List (Turn ByJournal))). All (λ own. length own ≡ p.0) p.1) (λ i. (sym (of_marks g at) i, sym made i))
    (all_turns g.D.Decider.verdict (itself g) turn_itself c.in_ok-field.field c.args.lists.now.turns (turns_are g at) c.activate_all.new.states c.activate_all.ensures.after)

pub copy_marks-requires-clause-none : goal.copy_marks-requires-clause-none
copy_marks-requires-clause-none g c κs within =
    let at = (goal.at.copy_marks-requires-clause-none g c).After-activate_all in
    let answers = c.clear-turns.result.items in
    let same = ap (λ (vs : List _). length vs) c.as_slice.ensures.value ∙ number g at answers (kept g at (lists_told turn_itself answers) c.clear-turns.ensures.turns) in
    c.in_ok-marks.ensures ∙ (λ i. no_marks ((c.callers-2.ensures.value ∙ sym same) i) ((c.turns.ensures ∙ sym (of_marks g at)) i))

-- all turns are made, the seats are back, and the marks are copied
made : (g : Over) (c : After-copy_marks g) → AreAllMade c.in_ok-field.field c.clear-turns.new.seats c.copy_marks.new.marks (lists_told turn_itself c.clear-turns.result.items)
made g c =
    let at = (goal.at.close-world-requires-clause-all g c).After-activate_all in
    let answers = c.clear-turns.result.items in
    let back = c.clear-turns.ensures.seats ∙ (λ i. record (c.in_ok-states.ensures.out i) { seats = map (seat_at (itself g)) (whole g at i) }) in
    are_made g.D.Decider.verdict (itself g) turn_itself c.in_ok-field.field c.args.lists.now.turns (turns_are g at) c.activate_all.new.states c.activate_all.ensures.after c.clear-turns.new.seats
    (record { table = ap (λ (s : SeatsOf g.row.D.Denot). s.table) back ∙ ap (λ (s : SeatsOf g.row.D.Denot). s.table) c.in_ok-field.ensures.seats; terms = ap (λ (s : SeatsOf g.row.D.Denot). s.terms) back ∙ ap (λ (s : SeatsOf g.row.D.Denot). s.terms) c.in_ok-field.ensures.seats })
    (ap (λ (s : SeatsOf g.row.D.Denot). s.seats) back) (callers g at) c.copy_marks.new.marks (lists_told turn_itself answers) (kept g at (lists_told turn_itself answers) c.clear-turns.ensures.turns)
    (c.copy_marks.ensures ∙ (λ i. record { turns = (of_marks g at ∙ turns_are g at) i; marks = map marks_in (lists_told turn_itself (c.as_slice.ensures.value i)) }))

pub close-world-requires-clause-all : goal.close-world-requires-clause-all
close-world-requires-clause-all g c κs within = (made g c).there

-- the field is closed, and what is left is a report
report : (g : Over) (c : After-of g) → Reached (setup_of_terms g.D.Decider.verdict (field_terms c.args.decider.now c.args.world c.args.lists.now)) (record { world = c.close-world.result.0; journal = c.close-world.result.1; turns = c.copy_marks.new.marks })
    × Good (g.D.Decider.verdict c.args.decider.now) c.args.world c.args.lists.now (record { world = c.close-world.result.0; journal = c.close-world.result.1; turns = c.copy_marks.new.marks })
report g c =
    let at = goal.at.returns-clause-reached g c in
    let run : IsSetup (setup_of_terms g.D.Decider.verdict (field_terms c.args.decider.now c.args.world c.args.lists.now)) = record {
      valid = c.keeps.ensures.valid;
      few = c.keeps.ensures.few;
      lists = c.callers.ensures.lists;
      bots = c.requires;
      touches = c.touches_zone.ensures;
      leads = c.has_next.ensures;
    } in
    is_report g.D.Decider.verdict c.in_ok-field.field c.clear-turns.new.seats c.copy_marks.new.marks (lists_told turn_itself c.clear-turns.result.items) (made g at.After-copy_marks) (field_terms c.args.decider.now c.args.world c.args.lists.now) (terms g at.After-activate_all) c.ended_field_is_reached.ensures run
    c.close-world.result.0 c.close-world.result.1 c.close-world.ensures.closes

pub returns-clause-reached : goal.returns-clause-reached
returns-clause-reached g c = (report g c).0

pub returns-clause-good : goal.returns-clause-good
returns-clause-good g c = (report g c).1

pub returns-clause-turns : goal.returns-clause-turns
returns-clause-turns g c =
    subst (AreTurnsOf c.copy_marks.new.marks) (told_is c.clear-turns.result.items ∙ sym c.of.ensures) (made g (goal.at.returns-clause-turns g c).After-copy_marks).turns
