-- What a search for a path knows: the nodes that it has marked, and the order in which it met them.
use Rattle.std.specs.Prelude.{◌≡◌, ℕ, ◌<◌, ◌≤◌, ◌*◌, Bool, true, false, not, IsTrue, List, [], ◌∷◌, ◌++◌, length, slice_index_or, slice_set, unwrap_or, if◌then◌else◌, pos}
use Rattle.std.specs.declared.option.Option.{Option}
use Rattle.std.specs.declared.option.Option.TheVariants.{Some, None}
use Rattle.std.specs.List.{count_by}
use Rattle.std.specs.Option.{option_map}
use Rattle.tri_lattice.specs.declared.node.Node.{Node}
use Rattle.tri_lattice.specs.Extent.{Extent, index_of}
use Rattle.tri_lattice.specs.Lattice.{step}
use Rattle.tri_lattice.specs.Sets.{Joined}

-- a node is marked under its number in the area; none outside is
abbrev pub node_mark : Extent → List Bool → Node → Bool
node_mark a marks v = unwrap_or (option_map (λ k. slice_index_or marks k false) (index_of a v)) false

-- how many numbers are not marked
abbrev pub unmarked_count : List Bool → ℕ
unmarked_count marks = count_by not marks

-- the marks with one more, under a number if there is one
abbrev pub set_at : List Bool → Option ℕ → List Bool
set_at marks None = marks
set_at marks (Some k) = slice_set marks k true

abbrev pub with_mark : Extent → List Bool → Node → List Bool
with_mark a marks v = set_at marks (index_of a v)

-- the nodes that were met with one more, if it is not marked yet
abbrev pub with_met : Extent → List Bool → List Node → Node → List Node
with_met a marks order v = if node_mark a marks v then order else order ++ v ∷ []

-- the node that was met as number j
abbrev pub met : List Node → ℕ → Node
met order j = slice_index_or order j (record { x = pos 0; y = pos 0 })

-- the nodes to which a path in the set leads from the first one are marked,
-- as far as the neighbours of the first `done` nodes tell; what is marked was met
pub record IsSearch (S : Node → Bool) (a : Extent)
    (marks : List Bool) (order : List Node) (done : ℕ) : Type 0 where
  pub size : length marks ≡ a.w * a.h
  pub begun : 0 < length order
  pub reached : (v : Node) → IsTrue (node_mark a marks v) → Joined S (met order 0) v
  pub listed : (j : ℕ) → j < length order → IsTrue (node_mark a marks (met order j))
  pub found : (v : Node) → IsTrue (node_mark a marks v) → (j : ℕ) × (j < length order) × (met order j ≡ v)
  pub closed : (j : ℕ)
      → j < done
      → (d : ℕ)
      → d < 6
      → IsTrue (S (step (met order j) d))
      → IsTrue (node_mark a marks (step (met order j) d))
  pub few : done ≤ length order

-- exactly the nodes to which a path leads from the start are marked
pub record IsReach (S : Node → Bool) (a : Extent) (start : Node) (marks : List Bool) : Type 0 where
  pub size : length marks ≡ a.w * a.h
  pub reached : (v : Node) → IsTrue (node_mark a marks v) → Joined S start v
  pub whole : (v : Node) → Joined S start v → IsTrue (node_mark a marks v)

-- a node of the set that is not marked and has a marked neighbour
pub record IsBeside (S : Node → Bool) (a : Extent) (marks : List Bool) (v : Node) : Type 0 where
  pub on : IsTrue (S v)
  pub new : node_mark a marks v ≡ false
  pub neighbour : (d : ℕ) × (d < 6) × IsTrue (node_mark a marks (step v d))
