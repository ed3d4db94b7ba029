use Rattle.std.proofs.Common.{◌+◌, ◌<◌, ap, sym, subst, map, reverse, length, ◌∙◌, true}
use Rattle.amoebot_state.specs.Pairs.{Pairs, plain_patch}
use Rattle.claim_core.specs.Machine.{patched_pair}
use Rattle.claim_core.proofs.MachineLemmas.{reverse-map}
use Rattle.claim_rule.specs.declared.activation.Room.{Room}
use Rattle.claim_rule.specs.Manners.{by_ticket}
use Rattle.claim_rule.specs.Tokens.{Token, IsActivation, IsFreeing, frame_of, doing}
use Rattle.claim_rule.proofs.SettlingLemmas.{drawn_is}
use Rattle.claim_rule.proofs.drawn.draw.Goals as goal

pub invariant_of-result : goal.invariant_of-result
invariant_of-result g c =
    let a = c.claimed.inside.activation in
    let r = a.room.value in
    let ready = c.keep_changes.new.self in
    let room = c.settle.new.self in
    let before = c.keep_changes.ensures.same ∙ ap (λ (q : Room). record q { changes = ready.changes }) c.deref_mut.ensures.value in
    let now = c.settle.ensures.same ∙ ap (λ (q : Room). record q { cells = room.cells; stale = true }) (c.deref_mut-room.ensures.value ∙ before) in
    let cells = c.settle.ensures.cells ∙ ap (λ (q : Room). map (patched_pair q.changes.items) q.cells) (c.deref_mut-room.ensures.value ∙ before) ∙ ap (λ (ps : Pairs). map (patched_pair ps) r.cells) c.keep_changes.ensures.changes in
    let m = c.draw_place-place.new.seat.me in
    let place = c.draw_place-place.result in
    let all = drawn_is g.D.Decider.verdict a.seat.me _ _ _ _ _ _ _ by_ticket c.claimed.invariant.1.told _ c.args.change.now place m _ c.claimed.invariant.0 c.claimed.invariant.1.whole
    (ap (λ (t : Token _). (doing t).phase) c.claimed.view_is ∙ c.requires.change) c.draw_place-place.ensures.told.0 c.draw_place-place.ensures.told.1 c.draw_place-place.ensures.told.2 (ap reverse cells ∙ reverse-map (patched_pair (plain_patch c.args.change.now.patch)) r.cells) in
    let held = reverse room.cells in
    subst (λ (q : Room). IsActivation g.D.Decider.verdict by_ticket m q.caller q.turn q.bot q.stale (frame_of q.area q.maxes) held (reverse q.notes) × IsFreeing g.D.Decider.verdict m q.turn held (place + 1) × (0 < length held)) (sym now) (all.0, all.1, all.2)
