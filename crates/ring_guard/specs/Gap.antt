-- A set that is not connected: the two ends of a chain of three nodes without its middle.
use Rattle.std.specs.Prelude.{pos, Bool, ◌||◌}
use Rattle.tri_lattice.specs.declared.node.Node.{Node}
use Rattle.tri_lattice.specs.Lattice.{node_eq}
use Rattle.tri_lattice.specs.Sets.{IsConnected, TakesOut}
use Rattle.ring_guard.specs.Rings.{IsOneArc, ring_in}

abbrev pub left_node : Node
left_node = record { x = pos 0; y = pos 0 }

abbrev pub middle : Node
middle = record { x = pos 1; y = pos 0 }

abbrev pub right_node : Node
right_node = record { x = pos 2; y = pos 0 }

abbrev pub chain : Node → Bool
chain v = node_eq left_node v || node_eq middle v || node_eq right_node v

abbrev pub end_pair : Node → Bool
end_pair v = node_eq left_node v || node_eq right_node v

-- the chain is connected, the pair is the chain without its middle, whose ring is not one arc,
-- and the pair is not connected
pub record GapSplits : Type 0 where
  pub connected : IsConnected chain
  pub taken : TakesOut chain end_pair middle
  pub arcs : IsOneArc (ring_in chain middle) → ⊥
  pub split : IsConnected end_pair → ⊥
