use Rattle.std.proofs.Common.{◌≡◌, ◌*◌, ◌++◌, ◌∷◌, [], List, ap, sym, ◌∙◌, arith, length}
use Rattle.std.specs.Prelude.{unwrap_or}
use Rattle.std.proofs.lemmas.List.{append_assoc}
use Rattle.tri_lattice.specs.Extent.{Extent, node_at}
use Rattle.amoebot_state.specs.declared.cell.Cell.TheVariants as cell
use Rattle.amoebot_state.specs.Configs.{blank, occupant}
use Rattle.claim_rule.specs.declared.views.Slot.{Slot}
use Rattle.claim_rule.specs.declared.views.Slot.TheVariants as slot
use Rattle.claim_rule.proofs.FirstSlots.{node_slots, bodies_so_far, one_more_slot, one_more_body, all_slots}
use Rattle.claim_rule.proofs.make.ticket_slots.Goals as goal

pub loop-number-preserved : goal.loop-number-preserved
loop-number-preserved c =
    let w = c.args.world.now in
    let node = c.node-node.ensures ∙ ap (λ (a : Extent). node_at a c.loop-number.number) c.area-area.ensures in
    let occ = c.occupant.ensures ∙ ap (occupant w) node in
    (c.area-area.ensures, c.in_ok-push.ensures.items ∙ (λ i. c.loop-number.invariant.1 i ++ slot.Cell (cell.Spot (occ i)) ∷ []) ∙ sym (one_more_slot w c.loop-number.number))

pub loop-id-preserved : goal.loop-id-preserved
loop-id-preserved c =
    let w = c.args.world.now in
    let body = ap (λ o. unwrap_or o blank) c.bot.ensures.value in
    let front = node_slots w (w.area.w * w.area.h) in
    c.in_ok-push-2.ensures.items ∙ (λ i. c.loop-id.invariant i ++ slot.Cell (cell.Body (body i)) ∷ []) ∙ append_assoc front (bodies_so_far w c.loop-id.id) _ ∙ ap (λ (xs : List Slot). front ++ xs) (sym (one_more_body w c.loop-id.id))

pub returns : goal.returns
returns c =
    let w = c.args.world.now in
    let all : c.loop-id.id ≡ length w.bots = omega (arith, c.loop-id-test.false, c.loop-id.auto.id-end, c.bots-id-end.ensures.value) in
    c.loop-id.invariant ∙ ap (λ n. node_slots w (w.area.w * w.area.h) ++ bodies_so_far w n) all ∙ sym (all_slots w)
