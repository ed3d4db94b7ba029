use Rattle.std.proofs.Common.{◌≡◌, ap, sym, ◌∙◌, arith}
use Rattle.std.proofs.lemmas.Int.{ints}
use Rattle.tri_lattice.proofs.Nodes.{same_node}
use Rattle.shape_checks.specs.Hexagons.{steps_away}
use Rattle.shape_checks.proofs.disc.steps_away.Goals as goal

pub returns-in_default : goal.returns-in_default
returns-in_default c =
    let five : c.args.dir ≡ 5 = omega arith in
    same_node _ (steps_away c.args.from 5 c.args.steps) (omega (arith, ints)) (omega (arith, ints)) ∙ ap (λ d. steps_away c.args.from d c.args.steps) (sym five)
