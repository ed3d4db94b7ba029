-- Rings of six entries, and the arcs of the true ones.
use Rattle.std.specs.Prelude.{◌≡◌, ℕ, ◌+◌, ◌-◌, ◌%◌, ◌<◌, ◌≤◌, Bool, false, not, ◌&&◌, IsTrue, List, map, slice_index_or, nat_lt, nat_le}
use Rattle.std.specs.List.{list_any, count_by}
use Rattle.tri_lattice.specs.declared.node.Node.{Node}
use Rattle.tri_lattice.specs.Lattice.{directions, ring}

-- the entry in a direction, false outside
abbrev pub ring_entry : List Bool → ℕ → Bool
ring_entry xs i = slice_index_or xs i false

-- an arc ends in direction i: its entry is true and the next one round is false
abbrev pub IsArcEnd : List Bool → ℕ → Type 0
IsArcEnd xs i = IsTrue (ring_entry xs i) × (ring_entry xs ((i + 1) % 6) ≡ false)

-- `IsArcEnd` as a test
abbrev pub is_arc_end : List Bool → ℕ → Bool
is_arc_end xs i = ring_entry xs i && not (ring_entry xs ((i + 1) % 6))

-- at least one entry is true, and an arc ends in at most one direction (this project's profile)
pub record IsOneArc (xs : List Bool) : Type 0 where
  pub some : (i : ℕ) × (i < 6) × IsTrue (ring_entry xs i)
  pub once : (i j : ℕ) → i < 6 → j < 6 → IsArcEnd xs i → IsArcEnd xs j → i ≡ j

-- `IsOneArc` as a test
abbrev pub is_one_arc : List Bool → Bool
is_one_arc xs = list_any (ring_entry xs) directions && nat_le (count_by (is_arc_end xs) directions) 1

-- the ring whose true entries are those of n directions in a row, from one on round
abbrev pub row : ℕ → ℕ → List Bool
row from n = map (λ i. nat_lt ((i + 6 - from) % 6) n) directions

-- the true entries stand in a row round the ring, and there is one
pub record IsRow (xs : List Bool) : Type 0 where
  pub from : ℕ
  pub count : ℕ
  pub below : from < 6
  pub some : 1 ≤ count
  pub most : count ≤ 6
  pub is : xs ≡ row from count

-- which of the six neighbours of a node are in a set
abbrev pub ring_in : (Node → Bool) → Node → List Bool
ring_in S v = map S (ring v)

-- no neighbour of the node is in the set
abbrev pub HasEmptyRing : (Node → Bool) → Node → Type 0
HasEmptyRing S v = (i : ℕ) → i < 6 → ring_entry (ring_in S v) i ≡ false
