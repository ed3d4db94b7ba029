-- What one arc says of a connected set, and which rings are one arc.
use Rattle.std.specs.Prelude.{◌≡◌, ◌↔◌, ℕ, ◌<◌, ◌/◌, ◌%◌, ◌==◌, Bool, IsTrue, List, [], ◌∷◌, length}
use Rattle.std.specs.List.{list_any}
use Rattle.tri_lattice.specs.declared.node.Node.{Node}
use Rattle.tri_lattice.specs.Sets.{IsConnected, TakesOut}
use Rattle.ring_guard.specs.Rings.{IsOneArc, IsRow, ring_in, HasEmptyRing}

-- taking out a node whose ring is one arc leaves a connected set connected
abbrev pub TakingKeeps : Type 0
TakingKeeps = (S T : Node → Bool) (v : Node) → IsConnected S
    → IsOneArc (ring_in S v) → TakesOut S T v → IsConnected T

-- and leaves a node
abbrev pub TakingLeaves : Type 0
TakingLeaves = (S T : Node → Bool) (v : Node) → IsOneArc (ring_in S v)
    → TakesOut S T v → (a : Node) × IsTrue (T a)

-- a node of a connected set with no neighbour in it is the whole set
abbrev pub AloneIsAll : Type 0
AloneIsAll = (S : Node → Bool) (v : Node) → IsConnected S → IsTrue (S v)
    → HasEmptyRing S v → (a : Node) → IsTrue (S a) → a ≡ v

-- a ring is one arc exactly where its true entries stand in a row round the ring, and there is one
abbrev pub ArcsAreRows : Type 0
ArcsAreRows = (xs : List Bool) → length xs ≡ 6 → IsOneArc xs ↔ IsRow xs

-- the ring whose entry i is bit i of a number below 64
abbrev pub ring_of : ℕ → List Bool
ring_of n = (n % 2 == 1) ∷ (n / 2 % 2 == 1) ∷ (n / 4 % 2 == 1)
    ∷ (n / 8 % 2 == 1) ∷ (n / 16 % 2 == 1) ∷ (n / 32 % 2 == 1) ∷ []

-- the rings of one arc by their numbers: one entry, two next to each other, three, four, five,
-- all six
abbrev pub arcs : List ℕ
arcs = 1 ∷ 2 ∷ 4 ∷ 8 ∷ 16 ∷ 32
    ∷ 3 ∷ 6 ∷ 12 ∷ 24 ∷ 48 ∷ 33
    ∷ 7 ∷ 14 ∷ 28 ∷ 56 ∷ 49 ∷ 35
    ∷ 15 ∷ 30 ∷ 60 ∷ 57 ∷ 51 ∷ 39
    ∷ 31 ∷ 62 ∷ 61 ∷ 59 ∷ 55 ∷ 47
    ∷ 63 ∷ []

-- of the 64 rings these 31 are one arc, and no other
abbrev pub ArcTable : Type 0
ArcTable = (n : ℕ) → n < 64 → IsOneArc (ring_of n) ↔ IsTrue (list_any (λ k. k == n) arcs)
