-- Nodes and amoebots that a text can hold: coordinates and values in range,
-- and 0 past the variables.
use Rattle.std.specs.Prelude.{◌≡◌, ◌≤◌, ◌-◌, ℕ, ℤ, pos, negsuc, suc, length, drop, replicate}
use Rattle.std.specs.List.{All}
use Rattle.tri_lattice.specs.declared.node.Node.{Node}
use Rattle.amoebot_state.specs.declared.bot.Bot.{Bot}
use Rattle.amoebot_state.specs.Limits.{most_vars, most_value}
use Rattle.shape_text.specs.Limits.{most_coordinate}

-- how far a whole number is from 0
abbrev pub size : ℤ → ℕ
size (pos n) = n
size (negsuc n) = suc n

pub record HasCoordinates (v : Node) : Type 0 where
  pub x : size v.x ≤ most_coordinate
  pub y : size v.y ≤ most_coordinate

-- an amoebot whose memory has 0 past the variables
pub record HasLimits (vars : ℕ) (b : Bot) : Type 0 where
  pub head : HasCoordinates b.head
  pub tail : HasCoordinates b.tail
  pub rot : b.rot ≤ 5
  pub eight : length b.mem ≡ 8
  pub values : All (λ v. v ≤ most_value) b.mem
  pub zeros : drop vars b.mem ≡ replicate (most_vars - vars) 0
