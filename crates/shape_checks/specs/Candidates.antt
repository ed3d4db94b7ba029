-- Where the centre of a hexagon can be, as the nodes tell that lie farthest out.
use Rattle.std.specs.Prelude.{ℕ, ◌<◌, Bool, IsTrue, pos, negsuc, ◌+ℤ◌, ◌-ℤ◌, ◌≤ℤ◌, List, [], ◌∷◌, slice_index_or}
use Rattle.tri_lattice.specs.declared.node.Node.{Node}
use Rattle.shape_checks.specs.declared.hexagon.Extremes.{Extremes}
use Rattle.shape_checks.specs.Hexagons.{IsHexagonAt}

-- nodes of a set that lie as far to the left, to the right and down as any of it
pub record AreExtremes (S : Node → Bool) (e : Extremes) : Type 0 where
  pub left_in : IsTrue (S e.left)
  pub right_in : IsTrue (S e.right)
  pub low_in : IsTrue (S e.low)
  pub left : (v : Node) → IsTrue (S v) → e.left.x ≤ℤ v.x
  pub right : (v : Node) → IsTrue (S v) → v.x ≤ℤ e.right.x
  pub low : (v : Node) → IsTrue (S v) → e.low.y ≤ℤ v.y

-- the four nodes that can be the centre of a hexagon of radius r with these extremes
abbrev pub candidates : Extremes → ℕ → List Node
candidates e r =
    let x = e.left.x +ℤ pos r in
    let y = e.low.y +ℤ pos r in
    record { x = x; y = y } ∷ record { x = x -ℤ pos 1; y = y } ∷ record { x = x; y = y -ℤ pos 1 }
    ∷ record { x = x -ℤ pos 1; y = y -ℤ pos 1 } ∷ []

-- one of the four is the centre of a hexagon of radius r
abbrev pub HasCentre : (Node → Bool) → Extremes → ℕ → Type 0
HasCentre S e r = (k : ℕ) × (k < 4) × IsHexagonAt S (slice_index_or (candidates e r) k e.left) r

-- a bound of the radii that are tried, which are at most 64, and one of the places of a circle
abbrev pub most_radius : ℕ
most_radius = 130

abbrev pub most_places : ℕ
most_places = 1000

-- coordinates in -6000..=6000, from where what lies 200 nodes away is near
abbrev pub IsCentral : Node → Type 0
IsCentral v = (negsuc 5999 ≤ℤ v.x) × (v.x ≤ℤ pos 6000) × (negsuc 5999 ≤ℤ v.y) × (v.y ≤ℤ pos 6000)

-- extremes within the bounds of areas, less than 128 columns apart
pub record AreCentral (e : Extremes) : Type 0 where
  pub left_low : negsuc 4095 ≤ℤ e.left.x
  pub left_high : e.left.x ≤ℤ pos 4223
  pub low_low : negsuc 4095 ≤ℤ e.low.y
  pub low_high : e.low.y ≤ℤ pos 4223
  pub in_order : e.left.x ≤ℤ e.right.x
  pub wide : (e.right.x -ℤ e.left.x) ≤ℤ pos 127
