-- Walls as nodes and as numbers of nodes. All of it is this project's profile.
use Rattle.std.specs.Prelude.{ℕ, List, [], ◌∷◌, Bool, false, filter, length, nat_eq, nat_lt, slice_index_or, if◌then◌else◌}
use Rattle.std.specs.List.{filter_map, fold, list_any, range_with_len}
use Rattle.std.specs.declared.option.Option.{Option}
use Rattle.std.specs.declared.option.Option.TheVariants.{Some, None}
use Rattle.tri_lattice.specs.declared.node.Node.{Node}
use Rattle.tri_lattice.specs.Extent.{Extent, index_of}
use Rattle.tri_lattice.specs.Lattice.{node_eq}

-- one of the nodes is this one
abbrev pub has_node : List Node → Node → Bool
has_node vs v = list_any (λ u. node_eq u v) vs

-- one of the numbers is this one; no number is none of them
abbrev pub has_number : List ℕ → Option ℕ → Bool
has_number ns None = false
has_number ns (Some k) = list_any (λ n. nat_eq n k) ns

-- rising numbers with one more, at its place; one that is there already comes once
abbrev pub with_number : List ℕ → ℕ → List ℕ
with_number [] k = k ∷ []
with_number (n ∷ ns) k =
    if nat_lt k n then k ∷ n ∷ ns else if nat_eq k n then n ∷ ns else n ∷ with_number ns k

-- the rising numbers of the nodes that lie in the area
abbrev pub node_numbers : Extent → List Node → List ℕ
node_numbers a vs = fold with_number [] (filter_map (index_of a) vs)

-- the places at which a list is true, in rising order
abbrev pub true_places : List Bool → List ℕ
true_places bs = filter (λ k. slice_index_or bs k false) (range_with_len 0 (length bs))
