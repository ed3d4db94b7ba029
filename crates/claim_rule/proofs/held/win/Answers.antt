use Rattle.std.proofs.Common.{◌<◌, ◌++◌, ◌∷◌, [], length, reverse, ap, sym, subst, ◌∙◌}
use Rattle.amoebot_state.specs.Configs.{Config}
use Rattle.amoebot_state.specs.Known.{AreReadInOrder, is_wall_cell}
use Rattle.amoebot_state.specs.Limits.{most_cells, most_nodes}
use Rattle.amoebot_state.specs.Pairs.{Pairs}
use Rattle.claim_core.specs.Cells.{number}
use Rattle.claim_core.specs.Tags.{tag}
use Rattle.claim_rule.specs.declared.activation.Room.{Room}
use Rattle.claim_rule.specs.declared.views.View.{View}
use Rattle.claim_rule.specs.Plays.{about}
use Rattle.claim_rule.specs.Views.{Seated, setup_at}
use Rattle.claim_rule.specs.Tokens.{Token, IsActivation, IsClaiming, KeepsRoom, KnowsTurn, KnowsWalls, frame_of, next_in}
use Rattle.claim_rule.proofs.ActivationLemmas.{to_try_slotted, wins_slotted, its_value, stops_slotted, last_first}
use Rattle.claim_rule.proofs.KnownTurns.{in_order, has_room}
use Rattle.claim_rule.proofs.KnownWalls.{still_known, wall_fits}
use Rattle.claim_rule.proofs.WayLemmas.{words_of_nodes}
use Rattle.claim_rule.proofs.held.win.Goals as goal

pub claim-found-requires-clause-next : goal.claim-found-requires-clause-next
claim-found-requires-clause-next g c κs within =
    let room = c.held.inside.activation.room.value in
    to_try_slotted g.D.Decider.verdict g.W.Manner.way c.held.inside.activation.seat.me _ _ _ _ _ _ _ c.held.invariant.0 c.args.cell (sym c.has_slot.ensures ∙ c.if-not-has_slot.false) c.held.invariant.1
    (ap (next_in g.D.Decider.verdict) c.held.view_is ∙ c.requires.next) c.in-Some.number c.deref-room.result.now.tag
    (ap (λ (q : Room). number q.area c.args.cell) (sym c.deref-room.ensures) ∙ sym c.cell_number.ensures ∙ c.in-Some.is)
    (ap (λ (q : Room). q.tag) c.deref-room.ensures ∙ c.held.invariant.2.tag ∙ ap (tag room.caller room.turn) c.held.invariant.0.bot)

pub invariant_of-result : goal.invariant_of-result
invariant_of-result g c =
    stops_slotted g.D.Decider.verdict g.W.Manner.way c.held.inside.activation.seat.me _ _ _ _ _ _ _ c.held.invariant.0 c.claim-found.new.seat.me c.args.cell c.claim-found.result c.held.invariant.1
    (ap (next_in g.D.Decider.verdict) c.held.view_is ∙ c.requires.next) (c.claim-found.ensures.told.1 c.if-found-ne0.true)

pub cell_there-value-requires-clause-won : goal.cell_there-value-requires-clause-won
cell_there-value-requires-clause-won g c κs within =
    let r = c.held.inside.activation.room.value in
    let at_n = ap (λ (q : Room). number q.area c.args.cell) (sym c.deref-room.ensures) ∙ sym c.cell_number.ensures ∙ c.in-Some.is in
    its_value g.D.Decider.verdict g.W.Manner.way c.held.inside.activation.seat.me _ _ _ _ _ _ _ c.held.invariant.0 c.args.cell (sym c.has_slot.ensures ∙ c.if-not-has_slot.false) c.held.invariant.1
    (ap (next_in g.D.Decider.verdict) c.held.view_is ∙ c.requires.next) c.claim-found.new.seat.me c.slot.result (c.claim-found.ensures.told.0 c.if-found-ne0.false) (c.slot.ensures r.area at_n (sym c.has_slot.ensures ∙ c.if-not-has_slot.false))

pub is_wall-wall-requires-clause-numbered : goal.is_wall-wall-requires-clause-numbered
is_wall-wall-requires-clause-numbered g c κs within =
    let at_n = ap (λ (q : Room). number q.area c.args.cell) (sym c.deref-room.ensures) ∙ sym c.cell_number.ensures ∙ c.in-Some.is in
    let terms = ap (λ (t : Token _). t.view.terms) c.held.view_is ∙ c.requires.field.terms in
    let world = ap (λ (q : Config). q.area) c.held.invariant.0.world ∙ ap (λ o. (setup_at g.D.Decider.verdict o).world.area) terms in
    ap (λ a. number a c.args.cell) (sym world) ∙ at_n

pub hold-requires-clause-few : goal.hold-requires-clause-few
hold-requires-clause-few g c =
    let v = c.cell_there-value.result in
    let a = c.held.inside.activation in
    let m = c.cell_there-value.new.seat.me in
    let at_n = ap (λ (q : Room). number q.area c.args.cell) (sym c.deref-room.ensures) ∙ sym c.cell_number.ensures ∙ c.in-Some.is in
    let won = wins_slotted g.D.Decider.verdict g.W.Manner.way a.seat.me _ _ _ _ _ _ _ c.held.invariant.0 c.args.cell (sym c.has_slot.ensures ∙ c.if-not-has_slot.false) c.held.invariant.1
    (ap (next_in g.D.Decider.verdict) c.held.view_is ∙ c.requires.next) c.claim-found.new.seat.me m v c.slot.result (c.claim-found.ensures.told.0 c.if-found-ne0.false)
    (c.slot.ensures a.room.value.area at_n (sym c.has_slot.ensures ∙ c.if-not-has_slot.false)) c.cell_there-value.ensures.value c.cell_there-value.ensures.stays in
    subst (λ (q : Room). length q.cells < most_cells) (sym c.deref_mut.ensures.value) (has_room g.D.Decider.verdict m _ _ _ _ _ _ a.room.value.cells _ _ _ won.0 won.1)

pub hold-requires-clause-knows : goal.hold-requires-clause-knows
hold-requires-clause-knows g c = subst KnowsTurn (sym c.deref_mut.ensures.value) c.held.invariant.2

pub hold-requires-clause-order : goal.hold-requires-clause-order
hold-requires-clause-order g c =
    let v = c.cell_there-value.result in
    let a = c.held.inside.activation in
    let m = c.cell_there-value.new.seat.me in
    let at_n = ap (λ (q : Room). number q.area c.args.cell) (sym c.deref-room.ensures) ∙ sym c.cell_number.ensures ∙ c.in-Some.is in
    let won = wins_slotted g.D.Decider.verdict g.W.Manner.way a.seat.me _ _ _ _ _ _ _ c.held.invariant.0 c.args.cell (sym c.has_slot.ensures ∙ c.if-not-has_slot.false) c.held.invariant.1
    (ap (next_in g.D.Decider.verdict) c.held.view_is ∙ c.requires.next) c.claim-found.new.seat.me m v c.slot.result (c.claim-found.ensures.told.0 c.if-found-ne0.false)
    (c.slot.ensures a.room.value.area at_n (sym c.has_slot.ensures ∙ c.if-not-has_slot.false)) c.cell_there-value.ensures.value c.cell_there-value.ensures.stays in
    subst (λ (q : Room). AreReadInOrder q.area q.bot (q.cells ++ (c.args.cell, v) ∷ [])) (sym c.deref_mut.ensures.value) (in_order g.D.Decider.verdict m _ _ _ _ _ _ a.room.value.cells _ _ _ won.0 won.1)

pub hold-requires-clause-few_walls : goal.hold-requires-clause-few_walls
hold-requires-clause-few_walls g c = λ is.
    let v = c.cell_there-value.result in
    let a = c.held.inside.activation in
    let r = a.room.value in
    let m = c.cell_there-value.new.seat.me in
    let at_n = ap (λ (q : Room). number q.area c.args.cell) (sym c.deref-room.ensures) ∙ sym c.cell_number.ensures ∙ c.in-Some.is in
    let won = wins_slotted g.D.Decider.verdict g.W.Manner.way a.seat.me _ _ _ _ _ _ _ c.held.invariant.0 c.args.cell (sym c.has_slot.ensures ∙ c.if-not-has_slot.false) c.held.invariant.1
    (ap (next_in g.D.Decider.verdict) c.held.view_is ∙ c.requires.next) c.claim-found.new.seat.me m v c.slot.result (c.claim-found.ensures.told.0 c.if-found-ne0.false)
    (c.slot.ensures r.area at_n (sym c.has_slot.ensures ∙ c.if-not-has_slot.false)) c.cell_there-value.ensures.value c.cell_there-value.ensures.stays in
    let order = in_order g.D.Decider.verdict m _ _ _ _ _ _ r.cells _ _ _ won.0 won.1 in
    let terms = ap (λ (t : Token _). t.view.terms) c.held.view_is ∙ c.requires.field.terms in
    let wall = ap (λ o. is_wall_cell (setup_at g.D.Decider.verdict o).world c.args.cell) terms ∙ sym c.is_wall-wall.ensures ∙ is in
    subst (λ (q : Room). length q.walls.items < most_nodes) (sym c.deref_mut.ensures.value)
    (wall_fits (about g.D.Decider.verdict a.seat.me.0).world r.area r.bot r.cells c.args.cell v r.walls.items c.held.invariant.3 order wall)

pub invariant_of-result-2 : goal.invariant_of-result-2
invariant_of-result-2 g c =
    let v = c.cell_there-value.result in
    let a = c.held.inside.activation in
    let m = c.cell_there-value.new.seat.me in
    let at_n = ap (λ (q : Room). number q.area c.args.cell) (sym c.deref-room.ensures) ∙ sym c.cell_number.ensures ∙ c.in-Some.is in
    let won = wins_slotted g.D.Decider.verdict g.W.Manner.way a.seat.me _ _ _ _ _ _ _ c.held.invariant.0 c.args.cell (sym c.has_slot.ensures ∙ c.if-not-has_slot.false) c.held.invariant.1
    (ap (next_in g.D.Decider.verdict) c.held.view_is ∙ c.requires.next) c.claim-found.new.seat.me m v c.slot.result (c.claim-found.ensures.told.0 c.if-found-ne0.false)
    (c.slot.ensures a.room.value.area at_n (sym c.has_slot.ensures ∙ c.if-not-has_slot.false)) c.cell_there-value.ensures.value c.cell_there-value.ensures.stays in
    let r = a.room.value in
    let new = c.hold.new.self in
    let now = c.hold.ensures.same ∙ ap (λ (q : Room). record q { zone = new.zone; cells = new.cells; walls = new.walls }) c.deref_mut.ensures.value in
    let cells = ap reverse (c.hold.ensures.cells ∙ ap (λ (q : Room). q.cells ++ (c.args.cell, v) ∷ []) c.deref_mut.ensures.value) ∙ last_first r.cells (c.args.cell, v) in
    let with_cells = subst (λ (ps : Pairs). IsActivation g.D.Decider.verdict g.W.Manner.way m r.caller r.turn r.bot r.stale (frame_of r.area r.maxes) ps (reverse r.notes) × IsClaiming g.D.Decider.verdict m r.turn r.bot ps) (sym cells) won in
    let all = subst (λ (q : Room). KeepsRoom g.D.Decider.verdict g.W.Manner.way m q × IsClaiming g.D.Decider.verdict m q.turn q.bot (reverse q.cells)) (sym now) with_cells in
    let won_of = c.claim-found.ensures.told.0 c.if-found-ne0.false in
    let same = ap (λ (q : Seated _). q.0.terms) c.cell_there-value.ensures.stays ∙ ap (λ (v : View _). v.terms) won_of.now in
    let known = still_known g.D.Decider.verdict a.seat.me.0 m.0 r same c.held.invariant.3 in
    let w = (about g.D.Decider.verdict m.0).world in
    let terms = ap (λ (t : Token _). t.view.terms) c.held.view_is ∙ c.requires.field.terms in
    let wall = c.is_wall-wall.ensures ∙ sym (ap (λ o. is_wall_cell (setup_at g.D.Decider.verdict o).world c.args.cell) (same ∙ terms)) in
    (all.0, all.1, c.hold.ensures.knows, c.hold.ensures.walls w (subst (KnowsWalls w) (sym c.deref_mut.ensures.value) known) wall)

pub win_node-requires-clause-words : goal.win_node-requires-clause-words
win_node-requires-clause-words g c κs within = words_of_nodes g.W.Manner.way c.args.cell (sym c.has_slot.ensures ∙ c.if-not-has_slot.true)
