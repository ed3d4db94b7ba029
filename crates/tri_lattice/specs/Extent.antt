-- A box of nodes, and the numbers of its nodes.
-- All of it is this project's profile: the paper's lattice has no bounds.
use Rattle.std.specs.Prelude.{ℕ, ℤ, pos, negsuc, neg_ℤ, ◌+ℤ◌, ◌-ℤ◌, ◌≤ℤ◌, nat_lt, is_some, ◌+◌, ◌*◌, ◌/◌, ◌%◌, ◌≤◌, Bool, false, ◌&&◌, if◌then◌else◌}
use Rattle.std.specs.declared.option.Option.{Option}
use Rattle.std.specs.Option.{option_and_then, option_map}
use Rattle.std.specs.declared.option.Option.TheVariants.{Some, None}
use Rattle.tri_lattice.specs.declared.node.Node.{Node}

-- where a box begins, and how wide and high it is
pub record Extent : Type 0 where
  pub x0 : ℤ
  pub y0 : ℤ
  pub w : ℕ
  pub h : ℕ

-- the farthest from 0 that either coordinate of a box's beginning may be,
-- and the most nodes of a side
abbrev pub most_start : ℕ
most_start = 4096

abbrev pub most_side : ℕ
most_side = 128

-- a box that may be an area: it begins within -4096..=4096, and its sides are 1 to 128 nodes
pub record IsArea (a : Extent) : Type 0 where
  pub x_low : neg_ℤ (pos most_start) ≤ℤ a.x0
  pub x_high : a.x0 ≤ℤ pos most_start
  pub y_low : neg_ℤ (pos most_start) ≤ℤ a.y0
  pub y_high : a.y0 ≤ℤ pos most_start
  pub w_low : 1 ≤ a.w
  pub w_high : a.w ≤ most_side
  pub h_low : 1 ≤ a.h
  pub h_high : a.h ≤ most_side

-- the place in a side of this length of what lies so far from its beginning; none outside
abbrev pub axis_offset : ℤ → ℕ → Option ℕ
axis_offset (pos n) side = if nat_lt n side then Some n else None
axis_offset (negsuc n) side = None

-- the number of a node of the box, row by row: (y - y0) * w + (x - x0); none outside
abbrev pub index_of : Extent → Node → Option ℕ
index_of a v = option_and_then (λ i. option_map (λ j. j * a.w + i) (axis_offset (v.y -ℤ a.y0) a.h))
    (axis_offset (v.x -ℤ a.x0) a.w)

-- the node lies in the box
abbrev pub is_in : Extent → Node → Bool
is_in a v = is_some (index_of a v)

-- the node with a number
abbrev pub node_at : Extent → ℕ → Node
node_at a n = record { x = a.x0 +ℤ pos (n % a.w); y = a.y0 +ℤ pos (n / a.w) }

-- what lies so far from the beginning of a side of this length is in the side,
-- and at neither end of it
abbrev pub is_amid_side : ℤ → ℕ → Bool
is_amid_side (pos n) side = nat_lt 0 n && nat_lt (n + 1) side
is_amid_side (negsuc n) side = false

-- the node lies in the box, and at no side of it
abbrev pub is_amid : Extent → Node → Bool
is_amid a v = is_amid_side (v.x -ℤ a.x0) a.w && is_amid_side (v.y -ℤ a.y0) a.h
