use Rattle.std.proofs.Common.{◌≤◌, sym, refl, subst, arith}
use Rattle.std.proofs.lemmas.Bool.{false≢true}
use Rattle.tri_lattice.specs.declared.node.Node.{Node}
use Rattle.tri_lattice.specs.Lattice.{distance}
use Rattle.shape_checks.proofs.Bots.{each_occupied, head_occupied}
use Rattle.shape_checks.proofs.disc.is_within.Goals as goal

pub returns-then-distance-from : goal.returns-then-distance-from
returns-then-distance-from c = (
  λ e. absurd (false≢true e),
  λ all.
      let near = all c.bot.result.now.head (head_occupied c.args.world.now c.keeps.ensures.valid _ _ (sym c.bot.ensures.value)) in
      let far = c.if-distance-from.true in
      let at = c.distance.ensures in
      let radius = c.from.ensures in
      absurd (omega arith),
)

pub returns : goal.returns
returns c =
    let w = c.args.world.now in
    let P : Node → Type 0 = λ v. distance c.args.centre v ≤ c.args.radius in
    let over = c.loop-id-test.false in
    let size = c.bots-id-end.ensures.value in
    (λ _. each_occupied w c.keeps.ensures.valid P (λ i b lt at. let near = c.loop-id.invariant i b (omega arith) at in (near, subst P (c.requires.contracted i b at) near)), λ _. refl)
