use Rattle.std.proofs.Common.{arith}
use Rattle.std.proofs.lemmas.Int.{ints}
use Rattle.tri_lattice.proofs.Nodes.{same_node}
use Rattle.shape_checks.proofs.Centres.{four_nodes}
use Rattle.shape_checks.proofs.hexagon.candidates.Goals as goal

pub returns : goal.returns
returns c =
    let q = c.requires.central in
    four_nodes
    (same_node _ _ (omega (arith, ints)) (omega (arith, ints)))
    (same_node _ _ (omega (arith, ints)) (omega (arith, ints)))
    (same_node _ _ (omega (arith, ints)) (omega (arith, ints)))
    (same_node _ _ (omega (arith, ints)) (omega (arith, ints)))
