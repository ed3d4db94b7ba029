-- The triangular lattice of the paper's geometric variant: nodes, neighbours,
-- adjacency and distance.
-- The coordinates, which step has which number, and the range
-- of `IsNear` are this project's profile.
use Rattle.std.specs.Prelude.{◌≡◌, ℕ, zero, suc, max, ℤ, pos, negsuc, ◌+ℤ◌, ◌-ℤ◌, ◌≤ℤ◌, unsigned_abs, ◌+◌, ◌%◌, ◌<◌, List, [], ◌∷◌, Bool, ◌&&◌}
use Rattle.std.specs.List.{list_any}
use Rattle.std.specs.Ordering.{int_eq}
use Rattle.tri_lattice.specs.declared.node.Node.{Node}

-- the six directions
abbrev pub directions : List ℕ
directions = 0 ∷ 1 ∷ 2 ∷ 3 ∷ 4 ∷ 5 ∷ []

-- how far a step in direction d goes along x: directions 0 to 5, each later number as 5
abbrev pub dx : ℕ → ℤ
dx zero = pos 1
dx (suc zero) = pos 0
dx (suc (suc zero)) = negsuc 0
dx (suc (suc (suc zero))) = negsuc 0
dx (suc (suc (suc (suc zero)))) = pos 0
dx (suc (suc (suc (suc (suc d))))) = pos 1

-- how far it goes along y
abbrev pub dy : ℕ → ℤ
dy zero = pos 0
dy (suc zero) = pos 1
dy (suc (suc zero)) = pos 1
dy (suc (suc (suc zero))) = pos 0
dy (suc (suc (suc (suc zero)))) = negsuc 0
dy (suc (suc (suc (suc (suc d))))) = negsuc 0

-- the neighbour of a node in direction d
abbrev pub step : Node → ℕ → Node
step v d = record { x = v.x +ℤ dx d; y = v.y +ℤ dy d }

-- the six neighbours, in the order of their directions
abbrev pub ring : Node → List Node
ring v = step v 0 ∷ step v 1 ∷ step v 2 ∷ step v 3 ∷ step v 4 ∷ step v 5 ∷ []

-- a direction turned by so many sixths of a full turn, towards the next higher number
abbrev pub turned : ℕ → ℕ → ℕ
turned d by = (d + by) % 6

-- the opposite direction
abbrev pub opposite : ℕ → ℕ
opposite d = turned d 3

-- both coordinates lie in -16000..=16000, from where each step stays within 16 bits
abbrev pub IsNear : Node → Type 0
IsNear v = (negsuc 15999 ≤ℤ v.x) × (v.x ≤ℤ pos 16000) × (negsuc 15999 ≤ℤ v.y) × (v.y ≤ℤ pos 16000)

-- d is the direction from a to b
abbrev pub Leads : Node → Node → ℕ → Type 0
Leads a b d = (d < 6) × (b ≡ step a d)

-- b is a neighbour of a
abbrev pub Adjacent : Node → Node → Type 0
Adjacent a b = (d : ℕ) × (d < 6) × (b ≡ step a d)

-- the nodes are one and the same
abbrev pub node_eq : Node → Node → Bool
node_eq a b = int_eq a.x b.x && int_eq a.y b.y

-- `Adjacent` as a test: b is one of the six neighbours of a
abbrev pub is_adjacent : Node → Node → Bool
is_adjacent a b = list_any (λ v. node_eq v b) (ring a)

-- the greatest of |dx|, |dy| and |dx + dy|
abbrev pub distance : Node → Node → ℕ
distance a b =
    let x = b.x -ℤ a.x in
    let y = b.y -ℤ a.y in
    max (max (unsigned_abs x) (unsigned_abs y)) (unsigned_abs (x +ℤ y))
