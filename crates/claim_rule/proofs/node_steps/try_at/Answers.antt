use Rattle.std.proofs.Common.{◌+◌, ◌<◌, ◌∷◌, ◌++◌, [], List, length, reverse, ap, sym, subst, ◌∙◌}
use Rattle.std.proofs.lemmas.List.{reverse-append, length-reverse}
use Rattle.amoebot_state.specs.declared.cell.CellName.TheVariants as name
use Rattle.amoebot_state.specs.declared.cell.Cell.TheVariants as cell
use Rattle.tri_lattice.specs.Extent.{Extent, index_of}
use Rattle.amoebot_state.specs.Configs.{Config, is_wall}
use Rattle.amoebot_state.specs.Known.{AreReadInOrder}
use Rattle.amoebot_state.specs.Limits.{most_cells, most_nodes}
use Rattle.amoebot_state.specs.Pairs.{Pairs}
use Rattle.claim_core.specs.Tags.{tag}
use Rattle.claim_rule.specs.Manners.{by_journal}
use Rattle.claim_rule.specs.declared.activation.Room.{Room}
use Rattle.claim_rule.specs.declared.views.Note.{Note}
use Rattle.claim_rule.specs.declared.views.View.{View}
use Rattle.claim_rule.specs.Plays.{about, note_of}
use Rattle.claim_rule.specs.Views.{setup_at}
use Rattle.claim_rule.specs.Tokens.{IsActivation, IsClaiming, KeepsRoom, KnowsTurn, KnowsWalls, NotedOf, frame_of}
use Rattle.claim_rule.proofs.ActivationLemmas.{last_first}
use Rattle.claim_rule.proofs.KnownTurns.{in_order, has_room}
use Rattle.claim_rule.proofs.KnownWalls.{still_known, wall_has_room}
use Rattle.claim_rule.proofs.Winning.{to_win, wins_it, seen_won, noted_again, stopped_again, few_more}
use Rattle.claim_rule.proofs.node_steps.try_at.Goals as goal

pub try_node-found-requires-clause-next : goal.try_node-found-requires-clause-next
try_node-found-requires-clause-next g c κs within =
    let a = c.noted.inside.activation in
    let room = a.room.value in
    to_win g.D.Decider.verdict _ _ _ _ _ _ _ _ a.seat.me _ c.noted.invariant.0 c.noted.inside.index c.deref.result.now.tag
    c.noted.invariant.2
    (ap (λ (q : Room). q.tag) c.deref.ensures ∙ c.noted.invariant.1.tag ∙ ap (tag room.caller room.turn) c.noted.invariant.0.activation.bot)

pub hold-requires-clause-few : goal.hold-requires-clause-few
hold-requires-clause-few g c =
    let a = c.noted.inside.activation in
    let r = a.room.value in
    let m = c.try_node-found.new.seat.me in
    let won = wins_it g.D.Decider.verdict _ _ _ _ _ _ _ _ a.seat.me _ c.noted.invariant.0 c.noted.inside.index (c.noted.inside.word + c.deref.result.now.tag) c.args.field.now.table.slots c.try_node-found.result m c.try_node-found.ensures.told c.if-found-word.true in
    subst (λ (q : Room). length q.cells < most_cells) (sym c.deref_mut-room.ensures.value) (has_room g.D.Decider.verdict m _ _ _ _ _ _ r.cells _ _ _ won.0 won.1)

pub hold-requires-clause-knows : goal.hold-requires-clause-knows
hold-requires-clause-knows g c = subst KnowsTurn (sym c.deref_mut-room.ensures.value) c.noted.invariant.1

pub hold-requires-clause-order : goal.hold-requires-clause-order
hold-requires-clause-order g c =
    let a = c.noted.inside.activation in
    let r = a.room.value in
    let m = c.try_node-found.new.seat.me in
    let won = wins_it g.D.Decider.verdict _ _ _ _ _ _ _ _ a.seat.me _ c.noted.invariant.0 c.noted.inside.index (c.noted.inside.word + c.deref.result.now.tag) c.args.field.now.table.slots c.try_node-found.result m c.try_node-found.ensures.told c.if-found-word.true in
    let order = in_order g.D.Decider.verdict m _ _ _ _ _ _ r.cells _ _ _ won.0 won.1 in
    let read = subst (λ o. AreReadInOrder r.area r.bot (r.cells ++ (name.Spot c.noted.inside.node, cell.Spot o) ∷ [])) (sym c.word_occ-occ.ensures) order in
    subst (λ (q : Room). AreReadInOrder q.area q.bot (q.cells ++ (name.Spot c.noted.inside.node, cell.Spot c.word_occ-occ.result) ∷ [])) (sym c.deref_mut-room.ensures.value) read

pub hold-requires-clause-few_walls : goal.hold-requires-clause-few_walls
hold-requires-clause-few_walls g c = λ _.
    let a = c.noted.inside.activation in
    let r = a.room.value in
    let m = c.try_node-found.new.seat.me in
    let won = wins_it g.D.Decider.verdict _ _ _ _ _ _ _ _ a.seat.me _ c.noted.invariant.0 c.noted.inside.index (c.noted.inside.word + c.deref.result.now.tag) c.args.field.now.table.slots c.try_node-found.result m c.try_node-found.ensures.told c.if-found-word.true in
    let order = in_order g.D.Decider.verdict m _ _ _ _ _ _ r.cells _ _ _ won.0 won.1 in
    subst (λ (q : Room). length q.walls.items < most_nodes) (sym c.deref_mut-room.ensures.value)
    (wall_has_room (about g.D.Decider.verdict a.seat.me.0).world r.area r.bot r.cells _ _ r.walls.items c.noted.invariant.3 order)

pub push-requires-clause-few : goal.push-requires-clause-few
push-requires-clause-few g c =
    let r = c.noted.inside.activation.room.value in
    let few = few_more g.D.Decider.verdict _ _ _ _ _ _ _ _ c.noted.inside.activation.seat.me _ c.noted.invariant.0 c.noted.inside.index (c.noted.inside.word + c.deref.result.now.tag) c.args.field.now.table.slots c.try_node-found.result c.try_node-found.new.seat.me c.try_node-found.ensures.told c.if-found-word.true in
    let notes = ap (λ (q : Room). q.notes) c.hold.ensures.same ∙ ap (λ (q : Room). q.notes) c.deref_mut-room.ensures.value in
    subst (λ (ns : List Note). length ns < most_cells) (sym notes) (subst (λ n. n < most_cells) (length-reverse r.notes) few.0)

pub push-requires-clause-free : goal.push-requires-clause-free
push-requires-clause-free g c = c.noted.invariant.0.free

pub invariant_of-result : goal.invariant_of-result
invariant_of-result g c =
    let node = c.noted.inside.node in
    let a = c.noted.inside.activation in
    let r = a.room.value in
    let m = c.try_node-found.new.seat.me in
    let won = wins_it g.D.Decider.verdict _ _ _ _ _ _ _ _ a.seat.me _ c.noted.invariant.0 c.noted.inside.index (c.noted.inside.word + c.deref.result.now.tag) c.args.field.now.table.slots c.try_node-found.result m c.try_node-found.ensures.told c.if-found-word.true in
    let new = c.hold.new.self in
    let now = c.hold.ensures.same ∙ ap (λ (q : Room). record q { zone = new.zone; cells = new.cells; walls = new.walls }) c.deref_mut-room.ensures.value in
    let cells = ap reverse (c.hold.ensures.cells ∙ ap (λ (q : Room). q.cells ++ (name.Spot node, cell.Spot c.word_occ-occ.result) ∷ []) c.deref_mut-room.ensures.value) ∙ last_first r.cells (name.Spot node, cell.Spot c.word_occ-occ.result) ∙ ap (λ o. (name.Spot node, cell.Spot o) ∷ reverse r.cells) c.word_occ-occ.ensures in
    let notes = ap reverse c.push.ensures ∙ reverse-append new.notes _ ∙ ap (λ (q : Room). note_of node c.noted.inside.word ∷ reverse q.notes) now in
    let with_cell = subst (λ (q : Pairs × List Note). IsActivation g.D.Decider.verdict by_journal m r.caller r.turn r.bot r.stale (frame_of r.area r.maxes) q.0 q.1 × IsClaiming g.D.Decider.verdict m r.turn r.bot q.0) (λ i. (sym cells i, sym notes i)) won in
    let all = subst (λ (q : Room). IsActivation g.D.Decider.verdict by_journal m q.caller q.turn q.bot q.stale (frame_of q.area q.maxes) (reverse q.cells) (reverse c.push.new.self) × IsClaiming g.D.Decider.verdict m q.turn q.bot (reverse q.cells)) (sym now) with_cell in
    let terms = ap (λ (v : View _). v.terms) (seen_won g.D.Decider.verdict _ _ _ _ _ _ _ _ a.seat.me _ c.noted.invariant.0 c.noted.inside.index (c.noted.inside.word + c.deref.result.now.tag) c.args.field.now.table.slots c.try_node-found.result m c.try_node-found.ensures.told c.if-found-word.true) in
    let known = still_known g.D.Decider.verdict a.seat.me.0 m.0 r terms c.noted.invariant.3 in
    let w = (about g.D.Decider.verdict m.0).world in
    let world = ap (λ o. (setup_at g.D.Decider.verdict o).world) (terms ∙ ap (λ (t : NotedOf _). t.claim.view.terms) c.noted.view_is ∙ c.requires.field.terms) ∙ sym c.world.ensures.first in
    let area = ap (λ (q : Config). q.area) c.noted.invariant.0.activation.world ∙ ap (λ o. (setup_at g.D.Decider.verdict o).world.area) (sym terms) ∙ ap (λ (q : Config). q.area) world in
    let wall = c.is_wall_number-wall.ensures node (ap (λ (e : Extent). index_of e node) (sym area) ∙ c.noted.invariant.2) ∙ ap (λ (q : Config). is_wall q node) (sym world) in
    let walls = c.hold.ensures.walls w (subst (KnowsWalls w) (sym c.deref_mut-room.ensures.value) known) wall in
    let back = subst (λ way. IsActivation g.D.Decider.verdict way m c.hold.new.self.caller c.hold.new.self.turn c.hold.new.self.bot c.hold.new.self.stale (frame_of c.hold.new.self.area c.hold.new.self.maxes) (reverse c.hold.new.self.cells) (reverse c.push.new.self)) (sym c.noted.invariant.4) all.0 in
    (back, all.1, record { tag = c.hold.ensures.knows.tag; zone = c.hold.ensures.knows.zone }, walls)

pub invariant_of-result-then-by-ne0 : goal.invariant_of-result-then-by-ne0
invariant_of-result-then-by-ne0 g c =
    let all = stopped_again g.D.Decider.verdict _ _ _ _ _ _ _ _ c.noted.inside.activation.seat.me _ c.noted.invariant.0 c.noted.inside.index (c.noted.inside.word + c.deref.result.now.tag) c.args.field.now.table.slots c.try_node-found.result c.try_node-found.new.seat.me c.try_node-found.ensures.told (λ e. c.if-by-ne0.true (c.word_tag-by.ensures ∙ e)) in
    (subst (λ w. KeepsRoom g.D.Decider.verdict w c.try_node-found.new.seat.me c.noted.inside.activation.room.value) (sym c.noted.invariant.4) all.0, all.1)

pub invariant_of-result-2 : goal.invariant_of-result-2
invariant_of-result-2 g c =
    let all = noted_again g.D.Decider.verdict _ _ _ _ _ _ _ _ c.noted.inside.activation.seat.me _ c.noted.invariant.0 c.noted.inside.index (c.noted.inside.word + c.deref.result.now.tag) c.args.field.now.table.slots c.try_node-found.result c.try_node-found.new.seat.me c.try_node-found.ensures.told (sym c.word_tag-by.ensures ∙ c.if-by-ne0.false) c.if-found-word.false in
    let known = still_known g.D.Decider.verdict c.noted.inside.activation.seat.me.0 c.try_node-found.new.seat.me.0 c.noted.inside.activation.room.value (ap (λ (v : View _). v.terms) all.1) c.noted.invariant.3 in
    (all.0, c.noted.invariant.1, c.noted.invariant.2, known, c.noted.invariant.4)
