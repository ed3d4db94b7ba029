-- How a world writes into its lists. No public clause of this crate cites these.
use Rattle.std.specs.Prelude.{◌≡◌, ℕ, ◌*◌, List, [], ◌∷◌, ◌++◌, Bool, false, not, ◌&&◌, if◌then◌else◌, length, slice_index_or, slice_set, nat_eq}
use Rattle.std.specs.List.{list_any, fold}
use Rattle.std.specs.declared.option.Option.{Option}
use Rattle.std.specs.declared.option.Option.TheVariants.{Some, None}
use Rattle.tri_lattice.specs.declared.node.Node.{Node}
use Rattle.tri_lattice.specs.Extent.{Extent, index_of, is_in}
use Rattle.tri_lattice.specs.Lattice.{node_eq}
use Rattle.amoebot_state.specs.declared.bot.Bot.{Bot}
use Rattle.amoebot_state.specs.declared.bot.Port.{Port}
use Rattle.amoebot_state.specs.Ports.{is_port, behind}
use Rattle.amoebot_state.specs.Walls.{has_node, true_places}
use Rattle.amoebot_state.specs.Configs.{Config, IsValid, frame_of}
use Rattle.amoebot_state.specs.declared.cell.CellName.{CellName}
use Rattle.amoebot_state.specs.declared.cell.CellName.TheVariants as name
use Rattle.amoebot_state.specs.declared.cell.Cell.{Cell}
use Rattle.amoebot_state.specs.declared.cell.Cell.TheVariants as cell

-- the list with x at its end, where it does not have it
abbrev pub with_new : {A : Type 0} → (A → A → Bool) → List A → A → List A
with_new eq xs x = if list_any (λ y. eq y x) xs then xs else xs ++ x ∷ []

-- the list with x at that number
abbrev pub put_at : {A : Type 0} → List A → Option ℕ → A → List A
put_at xs None x = xs
put_at xs (Some k) x = slice_set xs k x

-- the amoebots after one pair of a patch
abbrev pub put_bot : List Bot → CellName → Cell → List Bot
put_bot bs (name.Body i) (cell.Body b) = slice_set bs i b
put_bot bs (name.Body i) (cell.Spot o) = bs
put_bot bs (name.Spot v) x = bs

-- the occupants after one pair
abbrev pub put_spot : Extent → List (Option ℕ) → CellName → Cell → List (Option ℕ)
put_spot a g (name.Spot v) (cell.Spot o) = put_at g (index_of a v) o
put_spot a g (name.Spot v) (cell.Body b) = g
put_spot a g (name.Body i) x = g

abbrev pub put_bots : List Bot → List (CellName × Cell) → List Bot
put_bots bs ps = fold (λ cs (p : CellName × Cell). put_bot cs p.0 p.1) bs ps

abbrev pub put_spots : Extent → List (Option ℕ) → List (CellName × Cell) → List (Option ℕ)
put_spots a g ps = fold (λ h (p : CellName × Cell). put_spot a h p.0 p.1) g ps

-- the nodes with the one behind a port, where it is a port, the node lies in the area and is new
abbrev pub with_port : Extent → Bot → List Node → Port → List Node
with_port a b vs p = if is_port b p && is_in a (behind b p) then with_new node_eq vs (behind b p) else vs

-- the ids with an occupant, where it is another amoebot and new
abbrev pub with_other : ℕ → List ℕ → Option ℕ → List ℕ
with_other i is None = is
with_other i is (Some j) = if not (nat_eq j i) then with_new nat_eq is j else is

-- the grid says of each node of the area whether it is one of these
pub record IsMarked (a : Extent) (vs : List Node) (grid : List Bool) : Type 0 where
  pub size : length grid ≡ a.w * a.h
  pub right : (v : Node) (k : ℕ) → index_of a v ≡ Some k → slice_index_or grid k false ≡ has_node vs v

-- the frame whose walls are the nodes that such a grid marks
abbrev pub gridded_frame : Extent → List ℕ → List Bool → Config
gridded_frame area maxes grid = record (frame_of area maxes) { walls = true_places grid }

-- what a frame keeps: it is valid, and says of each node of the area whether it is a wall
pub record IsFrame (c : Config) (grid : List Bool) : Type 0 where
  pub valid : IsValid c
  pub size : length grid ≡ c.area.w * c.area.h
