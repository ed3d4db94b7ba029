use Rattle.std.proofs.Common.{◌≡◌, ◌++◌, ◌∷◌, [], List, ℕ, ap, sym, ◌∙◌, arith}
use Rattle.claim_core.specs.Cells.{cells}
use Rattle.claim_rule.proofs.FirstSlots.{zeros, one_more_zero, all_zeros}
use Rattle.claim_rule.proofs.make.ticket_words.Goals as goal

pub loop-cell-preserved : goal.loop-cell-preserved
loop-cell-preserved c = c.in_ok-push.ensures.items ∙ ap (λ (ns : List ℕ). ns ++ 0 ∷ []) c.loop-cell.invariant ∙ sym (one_more_zero [] c.loop-cell._cell)

pub returns : goal.returns
returns c =
    let w = c.args.world.now in
    let all : c.loop-cell._cell ≡ cells w = omega (arith, c.loop-cell-test.false, c.loop-cell.auto._cell-end, c.cells_of-cell-end.ensures.value) in
    c.in_ok-push-2.ensures.items ∙ ap (λ (ns : List ℕ). ns ++ 0 ∷ []) (c.loop-cell.invariant ∙ ap zeros all ∙ sym (all_zeros w))
