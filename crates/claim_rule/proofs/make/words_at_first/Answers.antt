use Rattle.std.proofs.Common.{◌≡◌, ◌*◌, ◌++◌, ◌∷◌, [], List, ℕ, ap, sym, ◌∙◌, arith, length}
use Rattle.tri_lattice.specs.Extent.{Extent, node_at}
use Rattle.amoebot_state.specs.Configs.{occupant}
use Rattle.claim_rule.specs.Words.{node_word}
use Rattle.claim_rule.proofs.FirstSlots.{node_words, zeros, one_more_node, one_more_zero, all_words}
use Rattle.claim_rule.proofs.make.words_at_first.Goals as goal

pub loop-number-preserved : goal.loop-number-preserved
loop-number-preserved c =
    let w = c.args.world.now in
    let node = c.node-node.ensures ∙ ap (λ (a : Extent). node_at a c.loop-number.number) c.area-area.ensures in
    let word = c.node_word.ensures ∙ ap (λ o. node_word 0 o 0) (c.occupant.ensures ∙ ap (occupant w) node) in
    (c.area-area.ensures, c.in_ok-push.ensures.items ∙ (λ i. c.loop-number.invariant.1 i ++ word i ∷ []) ∙ sym (one_more_node w c.loop-number.number))

pub loop-id-preserved : goal.loop-id-preserved
loop-id-preserved c =
    let w = c.args.world.now in
    c.in_ok-push-2.ensures.items ∙ (λ i. c.loop-id.invariant i ++ 0 ∷ []) ∙ sym (one_more_zero (node_words w (w.area.w * w.area.h)) c.loop-id._id)

pub returns : goal.returns
returns c =
    let w = c.args.world.now in
    let all : c.loop-id._id ≡ length w.bots = omega (arith, c.loop-id-test.false, c.loop-id.auto._id-end, c.bots-id-end.ensures.value) in
    c.in_ok-push-3.ensures.items ∙ ap (λ (xs : List ℕ). xs ++ 0 ∷ []) (c.loop-id.invariant ∙ ap (λ n. node_words w (w.area.w * w.area.h) ++ zeros n) all ∙ sym (all_words w))
