use Rattle.std.proofs.Common.{◌∷◌, [], reverse, ap, sym, subst, ◌∙◌}
use Rattle.std.proofs.lemmas.List.{reverse-append}
use Rattle.std.proofs.lemmas.Option.{none-some}
use Rattle.amoebot_state.specs.Configs.{Config}
use Rattle.amoebot_state.specs.Pairs.{Pairs}
use Rattle.claim_core.specs.Cells.{number}
use Rattle.atomic_table.specs.Table.{rest}
use Rattle.claim_rule.specs.declared.activation.Room.{Room}
use Rattle.claim_rule.specs.declared.views.Slot.TheVariants as slot
use Rattle.claim_rule.specs.Plays.{IsToFreeNode, note_of}
use Rattle.claim_rule.specs.Words.{node_word}
use Rattle.claim_rule.specs.Tokens.{IsActivation, IsFreeing, KeepsRoom, frame_of}
use Rattle.claim_rule.proofs.ActivationLemmas.{last_first, last_placed, its_slot, to_free, frees_slotted, to_free_node, frees_node}
use Rattle.claim_rule.proofs.WayLemmas.{words_of_nodes, node_of}
use Rattle.claim_rule.proofs.release.free_last.Goals as goal

pub unreachable-requires : goal.unreachable-requires
unreachable-requires g c =
    let is = c.freeing.invariant.0 in
    let are = ap (λ (q : Room). reverse q.cells) (sym c.deref_mut-room.ensures.value) ∙ ap reverse c.last.ensures.1 ∙ last_first c.last.ensures.0 c.last.result.now in
    let at_n = last_placed g.D.Decider.verdict g.W.Manner.way c.freeing.inside.activation.seat.me _ _ _ _ _ _ _ is c.last.result.now.0 c.last.result.now.1 _ are c.freeing.inside.activation.room.value.after c.freeing.invariant.1 in
    none-some at_n.0 (sym c.in_default.is ∙ c.cell_number.ensures ∙ ap (λ (q : Room). number q.area c.last.result.now.0) c.deref_mut-room.ensures.value ∙ ap (λ (q : Config). number q.area c.last.result.now.0) is.world ∙ at_n.1.0)

pub put_there-requires-clause-won : goal.put_there-requires-clause-won
put_there-requires-clause-won g c = λ κs lives.
    let r = c.freeing.inside.activation.room.value in
    let m = c.freeing.inside.activation.seat.me in
    let n = c.last.result.now.0 in
    let are = ap (λ (q : Room). reverse q.cells) (sym c.deref_mut-room.ensures.value) ∙ ap reverse c.last.ensures.1 ∙ last_first c.last.ensures.0 c.last.result.now in
    let has = sym c.has_slot.ensures ∙ c.if-has_slot.true in
    let at_n = ap (λ (q : Room). number q.area n) (sym c.deref_mut-room.ensures.value) ∙ sym c.cell_number.ensures ∙ c.in-Some.is in
    let at_slot = c.slot-slot.ensures r.area at_n has in
    let out = its_slot g.D.Decider.verdict g.W.Manner.way m _ _ _ _ _ _ _ c.freeing.invariant.0 n c.last.result.now.1 _ are has r.after c.freeing.invariant.1 in
    (out.0, out.1 ∙ ap (λ k. (k, slot.Cell out.0) ∷ rest m.1) (sym at_slot), λ e. out.2 (ap (λ (q : Room). q.stale) (sym c.deref_mut-room.ensures.value) ∙ e))

pub free-requires-clause-last : goal.free-requires-clause-last
free-requires-clause-last g c κs within =
    let value = c.last.result.now.1 in
    let n = c.last.result.now.0 in
    let r = c.freeing.inside.activation.room.value in
    let m = c.freeing.inside.activation.seat.me in
    let are = ap (λ (q : Room). reverse q.cells) (sym c.deref_mut-room.ensures.value) ∙ ap reverse c.last.ensures.1 ∙ last_first c.last.ensures.0 c.last.result.now in
    let has = sym c.has_slot.ensures ∙ c.if-has_slot.true in
    let at_n = ap (λ (q : Room). number q.area n) (sym c.deref_mut-room.ensures.value) ∙ sym c.cell_number.ensures ∙ c.in-Some.is in
    to_free g.D.Decider.verdict g.W.Manner.way m _ _ _ _ _ _ _ c.freeing.invariant.0 n value _ are has r.after c.freeing.invariant.1 c.put_there.new.seat.me c.in-Some.number at_n
    (c.put_there.ensures.there ∙ ap (λ i. (m.0, (i, slot.Cell value) ∷ rest m.1)) (c.slot-slot.ensures r.area at_n has))

pub free_node-requires-clause-words : goal.free_node-requires-clause-words
free_node-requires-clause-words g c κs within = words_of_nodes g.W.Manner.way c.last.result.now.0 (sym c.has_slot.ensures ∙ c.if-has_slot.false)

pub free_node-requires-clause-last : goal.free_node-requires-clause-last
free_node-requires-clause-last g c κs within =
    let value = c.last.result.now.1 in
    let n = c.last.result.now.0 in
    let r = c.freeing.inside.activation.room.value in
    let m = c.freeing.inside.activation.seat.me in
    let none = sym c.has_slot.ensures ∙ c.if-has_slot.false in
    let is = subst (λ w. KeepsRoom g.D.Decider.verdict w m r) (words_of_nodes g.W.Manner.way n none) c.freeing.invariant.0 in
    let node = node_of g.W.Manner.way n none in
    let left = c.word_left-word.ensures in
    let are = ap (λ (q : Room). reverse q.cells) (sym c.deref_mut-room.ensures.value) ∙ ap reverse c.last.ensures.1 ∙ last_first c.last.ensures.0 c.last.result.now ∙ ap (λ q. (q, value) ∷ reverse c.last.ensures.0) node.1 in
    let note = note_of c.pop.ensures.last.0 c.pop.result in
    let notes_are = ap (λ (q : Room). reverse q.notes) (sym c.deref_mut-room.ensures.value) ∙ ap reverse c.pop.ensures.last.1 ∙ reverse-append c.pop.new.self (note ∷ []) in
    subst (λ w. IsToFreeNode g.D.Decider.verdict c.in-Some.number w m.0) (sym (left.1 ∙ ap (λ o. node_word 0 o left.0) c.occupant_in-occ.ensures))
    (to_free_node g.D.Decider.verdict m _ _ _ _ _ _ _ is node.0 value _ are note _ notes_are r.after c.freeing.invariant.1 c.in-Some.number left.0
    (ap (number r.area) (sym node.1) ∙ ap (λ (q : Room). number q.area n) (sym c.deref_mut-room.ensures.value) ∙ sym c.cell_number.ensures ∙ c.in-Some.is)
    (λ e. left.2 (c.occupant_in-occ.ensures ∙ e)) (λ ne. left.3 (λ e. ne (sym c.occupant_in-occ.ensures ∙ e)) ∙ ap (λ (q : Room). q.after) c.deref_mut-room.ensures.value))

pub invariant_of-t-20 : goal.invariant_of-t-20
invariant_of-t-20 g c =
    let value = c.last.result.now.1 in
    let n = c.last.result.now.0 in
    let r = c.freeing.inside.activation.room.value in
    let was = c.freeing.inside.activation.seat.me in
    let are = ap (λ (q : Room). reverse q.cells) (sym c.deref_mut-room.ensures.value) ∙ ap reverse c.last.ensures.1 ∙ last_first c.last.ensures.0 c.last.result.now in
    let has = sym c.has_slot.ensures ∙ c.if-has_slot.true in
    let at_n = ap (λ (q : Room). number q.area n) (sym c.deref_mut-room.ensures.value) ∙ sym c.cell_number.ensures ∙ c.in-Some.is in
    let m = c.free.new.seat.me in
    let gone = ap reverse (c.drop_last.ensures c.last.ensures.0 c.last.result.now c.last.ensures.1) in
    subst (λ (q : Room × Pairs). IsActivation g.D.Decider.verdict g.W.Manner.way m q.0.caller q.0.turn q.0.bot q.0.stale (frame_of q.0.area q.0.maxes) q.1 (reverse q.0.notes) × IsFreeing g.D.Decider.verdict m q.0.turn q.1 q.0.after) (λ j. (sym c.deref_mut-room.ensures.value j, sym gone j))
    (frees_slotted g.D.Decider.verdict g.W.Manner.way was _ _ _ _ _ _ _ c.freeing.invariant.0 n value _ are has r.after c.freeing.invariant.1 c.put_there.new.seat.me m
    (c.put_there.ensures.there ∙ ap (λ i. (was.0, (i, slot.Cell value) ∷ rest was.1)) (c.slot-slot.ensures r.area at_n has))
    c.free.ensures.told.0 c.free.ensures.told.1)

pub invariant_of-result : goal.invariant_of-result
invariant_of-result g c =
    let value = c.last.result.now.1 in
    let n = c.last.result.now.0 in
    let r = c.freeing.inside.activation.room.value in
    let was = c.freeing.inside.activation.seat.me in
    let none = sym c.has_slot.ensures ∙ c.if-has_slot.false in
    let words = words_of_nodes g.W.Manner.way n none in
    let is = subst (λ w. KeepsRoom g.D.Decider.verdict w was r) words c.freeing.invariant.0 in
    let node = node_of g.W.Manner.way n none in
    let are = ap (λ (q : Room). reverse q.cells) (sym c.deref_mut-room.ensures.value) ∙ ap reverse c.last.ensures.1 ∙ last_first c.last.ensures.0 c.last.result.now ∙ ap (λ q. (q, value) ∷ reverse c.last.ensures.0) node.1 in
    let note = note_of c.pop.ensures.last.0 c.pop.result in
    let notes_are = ap (λ (q : Room). reverse q.notes) (sym c.deref_mut-room.ensures.value) ∙ ap reverse c.pop.ensures.last.1 ∙ reverse-append c.pop.new.self (note ∷ []) in
    let m = c.free_node.new.seat.me in
    let gone = ap reverse (c.drop_last-else-has_slot.ensures c.last.ensures.0 c.last.result.now c.last.ensures.1) in
    let now = frees_node g.D.Decider.verdict was _ _ _ _ _ _ _ is node.0 value _ are note _ notes_are r.after c.freeing.invariant.1 m c.free_node.ensures.told.0 c.free_node.ensures.told.1 in
    subst (λ (q : Room × Pairs). IsActivation g.D.Decider.verdict g.W.Manner.way m q.0.caller q.0.turn q.0.bot q.0.stale (frame_of q.0.area q.0.maxes) q.1 (reverse c.pop.new.self) × IsFreeing g.D.Decider.verdict m q.0.turn q.1 q.0.after) (λ j. (sym c.deref_mut-room.ensures.value j, sym gone j))
    (subst (λ w. IsActivation g.D.Decider.verdict w m r.caller r.turn r.bot r.stale (frame_of r.area r.maxes) (reverse c.last.ensures.0) (reverse c.pop.new.self)) (sym words) now.0, now.1)
