-- Configurations: an area, its walls, the greatest values of the variables,
-- and the amoebots by their ids.
-- An id may have none.
-- Configurations of amoebots on nodes are the paper's; areas, walls, maxima, ids,
-- cells and gaps are this project's profile.
use Rattle.std.specs.Prelude.{◌≡◌, ℕ, ◌<◌, ◌≤◌, ◌*◌, List, [], ◌∷◌, ◌++◌, Bool, false, ◌||◌, map, length, slice_index, slice_index_or, slice_set, IsTrue, nat_le, pos, unwrap_or}
use Rattle.std.specs.List.{All, list_all, position}
use Rattle.std.specs.List.Sorted.{IsStrictlyIncreasing}
use Rattle.std.specs.Option.{option_map}
use Rattle.std.specs.declared.option.Option.{Option}
use Rattle.std.specs.declared.option.Option.TheVariants.{Some, None}
use Rattle.tri_lattice.specs.declared.node.Node.{Node}
use Rattle.tri_lattice.specs.Extent.{Extent, IsArea, index_of, is_in}
use Rattle.tri_lattice.specs.Lattice.{node_eq, is_adjacent}
use Rattle.amoebot_state.specs.declared.bot.Bot.{Bot}
use Rattle.amoebot_state.specs.declared.bot.Chir.TheVariants as chir
use Rattle.amoebot_state.specs.declared.cell.CellName.{CellName}
use Rattle.amoebot_state.specs.declared.cell.CellName.TheVariants as name
use Rattle.amoebot_state.specs.declared.cell.Cell.{Cell}
use Rattle.amoebot_state.specs.declared.cell.Cell.TheVariants as cell
use Rattle.amoebot_state.specs.Limits.{most_bots}
use Rattle.amoebot_state.specs.Ports.{is_own}
use Rattle.amoebot_state.specs.Walls.{has_number, node_numbers}

-- an area, walls by the rising numbers of their nodes,
-- the greatest value of each of eight variables, and the amoebot of each id, if it has one
pub record Config : Type 0 where
  pub area : Extent
  pub walls : List ℕ
  pub maxes : List ℕ
  pub bots : List (Option Bot)

-- the amoebot with an id, if there is one
abbrev pub bot_at : Config → ℕ → Option Bot
bot_at c i = slice_index_or c.bots i None

-- an amoebot that stands nowhere in particular
abbrev pub blank : Bot
blank =
    let origin : Node = record { x = pos 0; y = pos 0 } in
    record {
      head = origin;
      tail = origin;
      rot = 0;
      chir = chir.Plus;
      mem = 0 ∷ 0 ∷ 0 ∷ 0 ∷ 0 ∷ 0 ∷ 0 ∷ 0 ∷ [];
    }

-- the amoebot with an id that is there; else a blank one, so that the word is total
abbrev pub bot_of : Config → ℕ → Bot
bot_of c i = unwrap_or (bot_at c i) blank

-- there is an amoebot, and the node is one of its own
abbrev pub covers : Option Bot → Node → Bool
covers None v = false
covers (Some b) v = is_own b v

-- the id whose amoebot has the node as its head or its tail,
-- if one has (the paper's geometric variant; ids are this project's)
abbrev pub occupant : Config → Node → Option ℕ
occupant c v = position (λ o. covers o v) c.bots

-- the node is a wall
abbrev pub is_wall : Config → Node → Bool
is_wall c v = has_number c.walls (index_of c.area v)

-- what a cell holds: a node its occupant or none; a body the amoebot,
-- if there is one (this project's profile)
abbrev pub value : Config → CellName → Option Cell
value c (name.Spot v) = Some (cell.Spot (occupant c v))
value c (name.Body i) = option_map cell.Body (bot_at c i)

-- the nodes are equal or adjacent
abbrev pub is_close : Node → Node → Bool
is_close a b = node_eq a b || is_adjacent a b

-- the numbers of the variables
abbrev pub variables : List ℕ
variables = 0 ∷ 1 ∷ 2 ∷ 3 ∷ 4 ∷ 5 ∷ 6 ∷ 7 ∷ []

-- no value is above its maximum
abbrev pub has_values : List ℕ → List ℕ → Bool
has_values maxes values = list_all (λ k. nat_le (slice_index values k) (slice_index maxes k)) variables

-- a configuration's frame: the configuration without its amoebots
abbrev pub frame : Config → Config
frame c = record c { bots = [] }

-- the frame with an area and with the greatest values of the variables, and with no wall
abbrev pub frame_of : Extent → List ℕ → Config
frame_of area maxes = record { area = area; walls = []; maxes = maxes; bots = [] }

-- the same with walls on the nodes of a list that lie in the area
abbrev pub walled_frame : Extent → List Node → List ℕ → Config
walled_frame area walls maxes = record (frame_of area maxes) { walls = node_numbers area walls }

-- a configuration's area and maxima, with neither walls nor amoebots
abbrev pub open_frame : Config → Config
open_frame c = frame_of c.area c.maxes

-- an amoebot that may stand in a frame: it is in the area on one node or on two adjacent ones
-- (the paper's geometric variant), neither of them a wall, has a rotation of 0 to 5,
-- and no value above its maximum (this project's profile)
pub record IsBot (c : Config) (b : Bot) : Type 0 where
  pub head : IsTrue (is_in c.area b.head)
  pub tail : IsTrue (is_in c.area b.tail)
  pub head_open : is_wall c b.head ≡ false
  pub tail_open : is_wall c b.tail ≡ false
  pub close : IsTrue (is_close b.head b.tail)
  pub rot : b.rot < 6
  pub values : IsTrue (has_values c.maxes b.mem)
  pub eight : length b.mem ≡ 8

-- each amoebot may stand in the frame, and no node belongs to two ids (the paper's geometric
-- variant, within this project's area); each wall is in the area and stands once,
-- in the order of numbers (this project's profile)
pub record IsValid (c : Config) : Type 0 where
  pub area : IsArea c.area
  pub eight : length c.maxes ≡ 8
  pub rising : IsStrictlyIncreasing c.walls
  pub walled : All (λ k. k < c.area.w * c.area.h) c.walls
  pub each : (i : ℕ) (b : Bot) → bot_at c i ≡ Some b → IsBot (frame c) b
  pub apart : (i j : ℕ) (v : Node) → IsTrue (covers (bot_at c i) v) → IsTrue (covers (bot_at c j) v) → i ≡ j

-- a configuration's frame with the amoebots of a list, each with its place as its id
abbrev pub with_these : Config → List Bot → Config
with_these c bots = record c { bots = map Some bots }

-- the configuration with one more amoebot
abbrev pub with_bot : Config → Bot → Config
with_bot c b = record c { bots = c.bots ++ Some b ∷ [] }

-- the configuration in which the id has this amoebot
abbrev pub set_bot : Config → ℕ → Bot → Config
set_bot c i b = record c { bots = slice_set c.bots i (Some b) }

-- the occupant of each node of the area, by the nodes' numbers
pub record IsGrid (c : Config) (grid : List (Option ℕ)) : Type 0 where
  pub size : length grid ≡ c.area.w * c.area.h
  pub right : (v : Node) (k : ℕ) → index_of c.area v ≡ Some k → slice_index_or grid k None ≡ occupant c v

-- what a world keeps: it is valid, has at most 4,096 amoebots, and knows the occupant of each node
pub record IsWorld (c : Config) (grid : List (Option ℕ)) : Type 0 where
  pub valid : IsValid c
  pub kept : IsGrid c grid
  pub few : length c.bots ≤ most_bots
