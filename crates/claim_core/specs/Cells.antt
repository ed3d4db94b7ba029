-- The cells of a configuration, by their numbers, and what they hold.
use Rattle.std.specs.Prelude.{ℕ, ◌+◌, ◌*◌, ◌^◌, List, [], ◌∷◌, Bool, false, length, map, nat_eq, if◌then◌else◌, slice_get}
use Rattle.std.specs.declared.option.Option.{Option}
use Rattle.std.specs.declared.option.Option.TheVariants.{Some, None}
use Rattle.tri_lattice.specs.Lattice.{node_eq}
use Rattle.tri_lattice.specs.Extent.{Extent, index_of}
use Rattle.amoebot_state.specs.declared.cell.CellName.{CellName}
use Rattle.amoebot_state.specs.declared.cell.CellName.TheVariants as name
use Rattle.amoebot_state.specs.declared.cell.Cell.{Cell}
use Rattle.amoebot_state.specs.declared.cell.Cell.TheVariants as cell
use Rattle.amoebot_state.specs.Pairs.{Pairs, cell_of, cell_value}
use Rattle.amoebot_state.specs.Storage.{put_at}
use Rattle.amoebot_state.specs.Configs.{Config, bot_of, occupant}
use Rattle.amoebot_state.specs.Patches.{all_cells}

-- the number of a cell: the nodes of the area by their numbers, then the bodies by their ids;
-- none for a node outside
abbrev pub number : Extent → CellName → Option ℕ
number a (name.Spot v) = index_of a v
number a (name.Body i) = Some (a.w * a.h + i)

-- how many cells there are
abbrev pub cells : Config → ℕ
cells c = c.area.w * c.area.h + length c.bots

-- a bound of how many there are, with much to spare
abbrev pub cell_bound : ℕ
cell_bound = 2 ^ 33

-- what a list has at a number, if it has
abbrev pub at : {A : Type 0} → List A → Option ℕ → Option A
at xs None = None
at xs (Some k) = slice_get xs k

-- what a cell holds
abbrev pub held_by : Config → CellName → Cell
held_by c (name.Spot v) = cell.Spot (occupant c v)
held_by c (name.Body i) = cell.Body (bot_of c i)

-- what each cell holds, by the cells' numbers
abbrev pub values_of : Config → List Cell
values_of c = map (held_by c) (all_cells c)

-- the cells are one
abbrev pub name_eq : CellName → CellName → Bool
name_eq (name.Spot u) (name.Spot v) = node_eq u v
name_eq (name.Spot u) (name.Body j) = false
name_eq (name.Body i) (name.Spot v) = false
name_eq (name.Body i) (name.Body j) = nat_eq i j

-- the value that a patch gives a cell, if it does
abbrev pub given : Pairs → CellName → Option Cell
given [] n = None
given (p ∷ ps) n = if name_eq (cell_of p) n then Some (cell_value p) else given ps n

-- the values with those of a patch in its cells
abbrev pub patched : Extent → Pairs → List Cell → List Cell
patched a [] values = values
patched a (p ∷ ps) values = put_at (patched a ps values) (number a (cell_of p)) (cell_value p)
