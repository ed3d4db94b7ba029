-- Patches: cells with their values before and after, the configuration that the new values lead to,
-- and the difference of two configurations.
-- All of it is this project's profile: the paper tells what
-- an activation changes by its operations.
use Rattle.std.specs.Prelude.{◌≡◌, ◌≢◌, ℕ, ◌+◌, ◌*◌, List, ◌++◌, Bool, true, false, ◌&&◌, map, length, is_some, unwrap_or, nat_eq, if◌then◌else◌}
use Rattle.std.specs.List.{All, filter_map, range_with_len}
use Rattle.std.specs.Cmp.Lexicographic.{pointwise}
use Rattle.std.specs.List.Sorted.{IsStrictlyIncreasing}
use Rattle.std.specs.declared.option.Option.{Option}
use Rattle.std.specs.declared.option.Option.TheVariants.{Some, None}
use Rattle.tri_lattice.specs.Lattice.{node_eq}
use Rattle.tri_lattice.specs.Extent.{node_at}
use Rattle.amoebot_state.specs.declared.bot.Bot.{Bot}
use Rattle.amoebot_state.specs.declared.bot.Chir.{Chir}
use Rattle.amoebot_state.specs.declared.bot.Chir.TheVariants as chir
use Rattle.amoebot_state.specs.declared.cell.CellName.{CellName}
use Rattle.amoebot_state.specs.declared.cell.CellName.TheVariants as name
use Rattle.amoebot_state.specs.declared.cell.Cell.{Cell}
use Rattle.amoebot_state.specs.declared.cell.Cell.TheVariants as cell
use Rattle.amoebot_state.specs.Pairs.{CellChange, Pairs, Triples, cell_of, cell_value}
use Rattle.amoebot_state.specs.Configs.{Config, IsValid, bot_at, value}
use Rattle.amoebot_state.specs.Zones.{shown_cell}

-- the new configuration differs from the old one in its amoebots at most, and has the same ids
pub record HasSameIds (old new : Config) : Type 0 where
  pub rest : new ≡ record old { bots = new.bots }
  pub size : length new.bots ≡ length old.bots
  pub ids : (i : ℕ) → is_some (bot_at new i) ≡ is_some (bot_at old i)

-- new is the configuration with the new values of these cells: it is valid,
-- differs from the old one in its amoebots at most, has the same ids,
-- the new values in these cells, and the old values in all others (this project's profile)
pub record IsPatched (old : Config) (patch : Pairs) (new : Config) : Type 0 where
  pub valid : IsValid new
  pub same : HasSameIds old new
  pub given : All (λ (p : CellName × Cell). value new (cell_of p) ≡ Some (cell_value p)) patch
  pub kept : (n : CellName) → All (λ (p : CellName × Cell). cell_of p ≢ n) patch → value new n ≡ value old n

-- the patch leads from the configuration to one
abbrev pub HasPatched : Config → Pairs → Type 0
HasPatched old patch = (new : Config) × IsPatched old patch new

-- the place of a cell in a patch: a node first, then the bodies by their ids
abbrev pub rank : CellName → ℕ
rank (name.Spot v) = 0
rank (name.Body i) = i + 1

-- at most one node, which stands first, and the bodies in rising id (this project's profile)
abbrev pub IsOrdered : Pairs → Type 0
IsOrdered ps = IsStrictlyIncreasing (map (λ (p : CellName × Cell). rank (cell_of p)) ps)

-- tests of equality: of chiralities,
abbrev pub chir_eq : Chir → Chir → Bool
chir_eq chir.Plus chir.Plus = true
chir_eq chir.Plus chir.Minus = false
chir_eq chir.Minus chir.Plus = false
chir_eq chir.Minus chir.Minus = true

-- of amoebots,
abbrev pub bot_eq : Bot → Bot → Bool
bot_eq a b =
    node_eq a.head b.head && node_eq a.tail b.tail && nat_eq a.rot b.rot && chir_eq a.chir b.chir
    && pointwise nat_eq a.mem b.mem

-- of the occupants of nodes,
abbrev pub id_eq : Option ℕ → Option ℕ → Bool
id_eq None None = true
id_eq None (Some j) = false
id_eq (Some i) None = false
id_eq (Some i) (Some j) = nat_eq i j

-- of what cells hold,
abbrev pub cell_eq : Cell → Cell → Bool
cell_eq (cell.Spot a) (cell.Spot b) = id_eq a b
cell_eq (cell.Spot a) (cell.Body b) = false
cell_eq (cell.Body a) (cell.Spot b) = false
cell_eq (cell.Body a) (cell.Body b) = bot_eq a b

-- and of values, where there may be none
abbrev pub same_value : Option Cell → Option Cell → Bool
same_value None None = true
same_value None (Some y) = false
same_value (Some x) None = false
same_value (Some x) (Some y) = cell_eq x y

-- a cell whose value differs, with its new value
abbrev pub changed : Config → Config → CellName → Option (CellName × Cell)
changed old new n = if same_value (value old n) (value new n) then None else shown_cell new n

-- all cells: the nodes of the area in the order of their numbers, then the bodies in rising id
abbrev pub all_cells : Config → List CellName
all_cells c =
    map (λ k. name.Spot (node_at c.area k)) (range_with_len 0 (c.area.w * c.area.h))
    ++ map name.Body (range_with_len 0 (length c.bots))

-- the cells whose value differs, with their new values: first the nodes,
-- then the bodies in rising id
abbrev pub plain_diff : Config → Config → Pairs
plain_diff old new = filter_map (changed old new) (all_cells old)

-- a cell with its new value, and before that the value that it has in the old configuration
abbrev pub with_old : Config → CellName × Cell → CellChange
with_old old p = (cell_of p, unwrap_or (value old (cell_of p)) (cell_value p), cell_value p)

-- the difference: the cells whose value differs, each with its value
-- in the old and in the new configuration
abbrev pub diff : Config → Config → Triples
diff old new = map (with_old old) (plain_diff old new)

-- the values before are those that the configuration has
abbrev pub HasOldValues : Config → Triples → Type 0
HasOldValues c ts = All (λ (t : CellChange). value c t.0 ≡ Some t.1) ts
