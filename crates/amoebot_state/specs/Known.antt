-- What is known of a zone whose cells are read one after another, in zone order.
-- That a zone is found while its cells are read is this project's profile.
use Rattle.std.specs.Prelude.{◌≡◌, ℕ, List, [], ◌∷◌, Bool, false, filter, length, take, slice_get, unwrap_or, IsSome}
use Rattle.std.specs.declared.option.Option.{Option}
use Rattle.std.specs.declared.option.Option.TheVariants.{Some, None}
use Rattle.tri_lattice.specs.declared.node.Node.{Node}
use Rattle.tri_lattice.specs.Extent.{Extent}
use Rattle.amoebot_state.specs.declared.bot.Bot.{Bot}
use Rattle.amoebot_state.specs.declared.cell.CellName.{CellName}
use Rattle.amoebot_state.specs.declared.cell.CellName.TheVariants as name
use Rattle.amoebot_state.specs.Pairs.{Pairs, body_in, nodes_in, spot_in}
use Rattle.amoebot_state.specs.Configs.{Config, IsValid, bot_at, is_wall}
use Rattle.amoebot_state.specs.Zones.{zone_at, shown}

-- the list is what the other one begins with
abbrev pub IsFront : {A : Type 0} → List A → List A → Type 0
IsFront xs ys = xs ≡ take (length xs) ys

-- who is on a node as far as it was read: nobody, where it was not
abbrev pub read_on : Pairs → Node → Option ℕ
read_on cells v = unwrap_or (spot_in cells v) None

-- the walls among the nodes that were read, in the order of reading
abbrev pub walls_read : Config → Pairs → List Node
walls_read c cells = filter (is_wall c) (nodes_in cells)

-- the cell is a node that is a wall
abbrev pub is_wall_cell : Config → CellName → Bool
is_wall_cell c (name.Spot v) = is_wall c v
is_wall_cell c (name.Body i) = false

-- the zone of an id whose amoebot was read as this: that gives the nodes,
-- and who was read on them gives the other bodies; where the amoebot was not read,
-- the zone begins with its body
abbrev pub known_from : Extent → ℕ → Pairs → Option Bot → List CellName
known_from a i cells None = name.Body i ∷ []
known_from a i cells (Some b) = zone_at a (read_on cells) i (Some b)

-- the zone as the cells that were read tell it
abbrev pub known_zone : Extent → ℕ → Pairs → List CellName
known_zone a i cells = known_from a i cells (body_in cells i)

-- the cell to be read next, after these, which were read in zone order, the first one first:
-- the one at their number in the zone that they tell; none where that has no more
abbrev pub next_cell : Extent → ℕ → Pairs → Option CellName
next_cell a i cells = slice_get (known_zone a i cells) (length cells)

-- the cells are the first ones that a valid configuration with this area shows
-- to its amoebot of this id, in zone order
pub record AreReadInOrder (a : Extent) (i : ℕ) (cells : Pairs) : Type 0 where
  pub config : Config
  pub valid : IsValid config
  pub area : config.area ≡ a
  pub there : IsSome (bot_at config i)
  pub front : IsFront cells (shown config i).cells
