-- What follows from the definitions alone.
use Rattle.std.specs.Prelude.{◌≡◌, ◌≢◌, ◌↔◌, ℕ, ◌*◌, ◌<◌, pos, ◌+ℤ◌, ◌-ℤ◌, ◌*ℤ◌, ◌≤ℤ◌, ◌<ℤ◌, Bool, IsTrue}
use Rattle.std.specs.declared.option.Option.TheVariants.{Some}
use Rattle.tri_lattice.specs.declared.node.Node.{Node}
use Rattle.tri_lattice.specs.Lattice.{step, turned, opposite, Adjacent, node_eq, is_adjacent, distance}
use Rattle.tri_lattice.specs.Extent.{Extent, index_of, is_in, node_at}
use Rattle.tri_lattice.specs.Sets.{IsConnected, SameNodes, PutsIn, IsAtMostOne}

-- a step and one in the opposite direction lead back
abbrev pub OppositeLeadsBack : Type 0
OppositeLeadsBack = (v : Node) (d : ℕ) → d < 6 → step (step v d) (opposite d) ≡ v

-- the neighbours in directions d and (d + 1) mod 6 are adjacent
abbrev pub NextNeighboursMeet : Type 0
NextNeighboursMeet = (v : Node) (d : ℕ) → d < 6 → Adjacent (step v d) (step v (turned d 1))

-- the six neighbours are distinct
abbrev pub NeighboursAreDistinct : Type 0
NeighboursAreDistinct = (v : Node) (d e : ℕ) → d < 6 → e < 6 → step v d ≡ step v e → d ≡ e

-- and none of them is the node itself
abbrev pub StepsLeave : Type 0
StepsLeave = (v : Node) (d : ℕ) → d < 6 → step v d ≢ v

-- adjacency goes both ways
abbrev pub AdjacencyIsSymmetric : Type 0
AdjacencyIsSymmetric = (a b : Node) → Adjacent a b → Adjacent b a

-- two nodes are adjacent exactly where their distance is 1
abbrev pub NeighboursAreAtOne : Type 0
NeighboursAreAtOne = (a b : Node) → Adjacent a b ↔ (distance a b ≡ 1)

-- the two tests answer what they are named for
abbrev pub NodeTestIsEquality : Type 0
NodeTestIsEquality = (a b : Node) → IsTrue (node_eq a b) ↔ (a ≡ b)

abbrev pub AdjacentTestIsAdjacency : Type 0
AdjacentTestIsAdjacency = (a b : Node) → IsTrue (is_adjacent a b) ↔ Adjacent a b

-- the nodes of a box are those with x0 <= x < x0 + w and y0 <= y < y0 + h
pub record IsWithin (a : Extent) (v : Node) : Type 0 where
  pub x_low : a.x0 ≤ℤ v.x
  pub x_high : v.x <ℤ (a.x0 +ℤ pos a.w)
  pub y_low : a.y0 ≤ℤ v.y
  pub y_high : v.y <ℤ (a.y0 +ℤ pos a.h)

abbrev pub BoxIsItsBounds : Type 0
BoxIsItsBounds = (a : Extent) (v : Node) → IsTrue (is_in a v) ↔ IsWithin a v

-- the number of a node is (y - y0) * w + (x - x0)
abbrev pub NumberCountsRows : Type 0
NumberCountsRows = (a : Extent) (v : Node) (k : ℕ) → index_of a v ≡ Some k
    → pos k ≡ (((v.y -ℤ a.y0) *ℤ pos a.w) +ℤ (v.x -ℤ a.x0))

-- each number below w * h is the number of exactly one node: of the node with that number
abbrev pub NodesHaveNumbers : Type 0
NodesHaveNumbers = (a : Extent) (k : ℕ) → k < a.w * a.h → index_of a (node_at a k) ≡ Some k

abbrev pub NumbersHaveNodes : Type 0
NumbersHaveNodes =
    (a : Extent) (v : Node) (k : ℕ) → index_of a v ≡ Some k → (k < a.w * a.h) × (node_at a k ≡ v)

-- sets with the same nodes are connected alike
abbrev pub SameKeeps : Type 0
SameKeeps = (S T : Node → Bool) → SameNodes S T → IsConnected S → IsConnected T

-- putting in a neighbour of one of its nodes leaves a connected set connected
abbrev pub PuttingKeeps : Type 0
PuttingKeeps = (S T : Node → Bool) (v a : Node) → IsConnected S
    → IsTrue (S a) → Adjacent a v → PutsIn S T v → IsConnected T

-- no node, or one alone, is connected
abbrev pub FewAreConnected : Type 0
FewAreConnected = (S : Node → Bool) → IsAtMostOne S → IsConnected S
