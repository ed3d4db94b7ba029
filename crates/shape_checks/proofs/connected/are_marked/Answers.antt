use Rattle.std.proofs.Common.{ap, sym, ◌∙◌, refl, arith}
use Rattle.std.specs.Prelude.{IsTrue}
use Rattle.std.proofs.lemmas.Bool.{both_ways, false≢true}
use Rattle.tri_lattice.specs.declared.node.Node.{Node}
use Rattle.tri_lattice.specs.Extent.{Extent}
use Rattle.shape_checks.specs.Marks.{node_mark}
use Rattle.shape_checks.proofs.Bots.{Both, bots_more, each_occupied, head_occupied, tail_occupied}
use Rattle.shape_checks.proofs.connected.are_marked.Goals as goal
use Rattle.shape_checks.proofs.connected.are_marked.Goals.{then-not-is_marked-via-then-not-is_marked, then-not-is_marked-via-else-not-is_marked+then-not-is_marked-2}

pub returns-then-not-is_marked : goal.returns-then-not-is_marked
returns-then-not-is_marked c =
    let w = c.args.world.now in
    let b = c.bot-bot.result.now in
    let at = sym c.bot-bot.ensures.value in
    let same = λ (v : Node). ap (λ (a : Extent). node_mark a c.args.marks.now v) c.area-area.ensures in (
      λ e. absurd (false≢true e),
      λ all. elim c.then-not-is_marked.branch [
        | then-not-is_marked-via-then-not-is_marked k ↦ absurd (both_ways _ k.if-not-is_marked.true (c.is_marked.ensures ∙ same b.head ∙ all b.head (head_occupied w c.keeps.ensures.valid _ b at)))
        | then-not-is_marked-via-else-not-is_marked+then-not-is_marked-2 k ↦ absurd (both_ways _ k.if-not-is_marked-2.true (k.is_marked-else-not-is_marked.ensures ∙ same b.tail ∙ all b.tail (tail_occupied w c.keeps.ensures.valid _ b at)))
      ],
    )

pub loop-id-preserved : goal.loop-id-preserved
loop-id-preserved c =
    let w = c.args.world.now in
    let b = c.bot-bot.result.now in
    let same = λ (v : Node). ap (λ (a : Extent). node_mark a c.args.marks.now v) (sym c.area-area.ensures) in
    let P : Node → Type 0 = λ v. IsTrue (node_mark w.area c.args.marks.now v) in
    bots_more w (Both P) c.loop-id.id b (sym c.bot-bot.ensures.value)
    (same b.head ∙ sym c.is_marked.ensures ∙ c.if-not-is_marked.false, same b.tail ∙ sym c.is_marked-else-not-is_marked.ensures ∙ c.if-not-is_marked-2.false)
    c.loop-id.invariant

pub returns : goal.returns
returns c =
    let w = c.args.world.now in
    let over = c.loop-id-test.false in
    let size = c.bots-id-end.ensures.value in
    (λ _. each_occupied w c.keeps.ensures.valid (λ v. IsTrue (node_mark w.area c.args.marks.now v)) (λ i b lt at. c.loop-id.invariant i b (omega arith) at), λ _. refl)
