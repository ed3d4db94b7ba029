-- The zone of an amoebot, and what it is shown of a configuration.
-- That an activation sees the amoebot, the nodes behind its ports and its neighbours
-- is the paper's; the cells, their order, and what is shown of them are this project's profile.
use Rattle.std.specs.Prelude.{◌≡◌, ℕ, zero, suc, List, [], ◌∷◌, ◌++◌, Bool, not, map, filter, nat_eq, IsSome}
use Rattle.std.specs.List.{filter_map}
use Rattle.std.specs.Option.{option_map}
use Rattle.std.specs.declared.option.Option.{Option}
use Rattle.std.specs.declared.option.Option.TheVariants.{Some, None}
use Rattle.tri_lattice.specs.declared.node.Node.{Node}
use Rattle.tri_lattice.specs.Lattice.{node_eq}
use Rattle.tri_lattice.specs.Extent.{Extent, is_in, node_at}
use Rattle.amoebot_state.specs.declared.bot.Bot.{Bot}
use Rattle.amoebot_state.specs.declared.cell.CellName.{CellName}
use Rattle.amoebot_state.specs.declared.cell.CellName.TheVariants as name
use Rattle.amoebot_state.specs.declared.cell.Cell.{Cell}
use Rattle.amoebot_state.specs.declared.cell.Cell.TheVariants as cell
use Rattle.amoebot_state.specs.Ports.{own_nodes, ports, behind}
use Rattle.amoebot_state.specs.Pairs.{nodes_in}
use Rattle.amoebot_state.specs.Walls.{has_node}
use Rattle.amoebot_state.specs.Configs.{Config, IsValid, bot_at, occupant, value, frame_of}

-- the list without the elements that equal an earlier one
abbrev pub distinct : {A : Type 0} → (A → A → Bool) → List A → List A
distinct eq [] = []
distinct eq (x ∷ xs) = x ∷ filter (λ y. not (eq x y)) (distinct eq xs)

-- the nodes of a zone: the amoebot's own, then those behind its ports that lie in the area,
-- each once
abbrev pub zone_nodes : Extent → Bot → List Node
zone_nodes a b = distinct node_eq (own_nodes b ++ filter (is_in a) (map (behind b) (ports b)))

-- the other amoebots on the nodes, in the order of the nodes, each once; `on` says who is on a node
abbrev pub others : (Node → Option ℕ) → ℕ → List Node → List ℕ
others on i vs = distinct nat_eq (filter (λ j. not (nat_eq j i)) (filter_map on vs))

-- the body, the nodes, the bodies of the others on them
abbrev pub zone_of : (Node → Option ℕ) → ℕ → List Node → List CellName
zone_of on i vs = name.Body i ∷ (map name.Spot vs ++ map name.Body (others on i vs))

-- the zone of an id in an area, in zone order, where this amoebot is the id's own,
-- and `on` says who is on a node; empty where the id has no amoebot (this project's profile)
abbrev pub zone_at : Extent → (Node → Option ℕ) → ℕ → Option Bot → List CellName
zone_at a on i None = []
zone_at a on i (Some b) = zone_of on i (zone_nodes a b)

-- the zone in a configuration: with its area, its occupants, and the amoebot that it has there
abbrev pub zone : Config → ℕ → List CellName
zone c i = zone_at c.area (occupant c) i (bot_at c i)

-- a closed neighbourhood (this project's profile): the area, the greatest values,
-- the id that is shown it, the rising numbers of the walls among its nodes,
-- and cells with what they hold
pub record Shown : Type 0 where
  pub area : Extent
  pub maxes : List ℕ
  pub bot : ℕ
  pub walls : List ℕ
  pub cells : List (CellName × Cell)

-- a cell with what it holds
abbrev pub shown_cell : Config → CellName → Option (CellName × Cell)
shown_cell c n = option_map (λ x. (n, x)) (value c n)

-- the number is that of a node among these cells
unfoldable pub is_number_among : Extent → List (CellName × Cell) → ℕ → Bool
is_number_among a cells k = has_node (nodes_in cells) (node_at a k)

-- the walls on the nodes among these cells
abbrev pub walls_among : Config → List (CellName × Cell) → List ℕ
walls_among c cells = filter (is_number_among c.area cells) c.walls

-- what is shown, by its parts
abbrev pub shown_by : Extent → List ℕ → ℕ → List ℕ → List (CellName × Cell) → Shown
shown_by area maxes i walls cells =
    record { area = area; maxes = maxes; bot = i; walls = walls; cells = cells }

-- what a configuration shows to an id by these cells
abbrev pub shown_with : Config → ℕ → List (CellName × Cell) → Shown
shown_with c i cells = shown_by c.area c.maxes i (walls_among c cells) cells

-- what an amoebot is shown: each cell of its zone with what it holds
abbrev pub shown : Config → ℕ → Shown
shown c i = shown_with c i (filter_map (shown_cell c) (zone c i))

-- some valid configuration shows it to an amoebot of its own
abbrev pub IsShown : Shown → Type 0
IsShown s = (c : Config) × IsValid c × IsSome (bot_at c s.bot) × (shown c s.bot ≡ s)

-- the list in which place i has this amoebot, with gaps up to it where the list was shorter
abbrev pub with_id : List (Option Bot) → ℕ → Bot → List (Option Bot)
with_id [] zero b = Some b ∷ []
with_id [] (suc i) b = None ∷ with_id [] i b
with_id (o ∷ os) zero b = Some b ∷ os
with_id (o ∷ os) (suc i) b = o ∷ with_id os i b

-- the amoebots that the cells hold, at their ids, and no other
abbrev pub spread : List (CellName × Cell) → List (Option Bot)
spread [] = []
spread ((name.Spot v, x) ∷ cells) = spread cells
spread ((name.Body i, cell.Spot o) ∷ cells) = spread cells
spread ((name.Body i, cell.Body b) ∷ cells) = with_id (spread cells) i b

-- the configuration that has what is shown and no other amoebot:
-- the ids that are not shown are gaps in it
abbrev pub shown_alone : Shown → Config
shown_alone s = record (frame_of s.area s.maxes) { walls = s.walls; bots = spread s.cells }
