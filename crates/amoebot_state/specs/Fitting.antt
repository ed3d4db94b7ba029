-- How a world tells whether cells with new values lead to a valid one.
-- No public clause of this crate cites these.
use Rattle.std.specs.Prelude.{ℕ, Bool, true, false, not, ◌&&◌, ◌||◌, is_some, length, nat_eq, nat_lt, unwrap_or}
use Rattle.std.specs.List.{list_all}
use Rattle.std.specs.Option.{option_or}
use Rattle.std.specs.declared.option.Option.{Option}
use Rattle.std.specs.declared.option.Option.TheVariants.{Some, None}
use Rattle.tri_lattice.specs.declared.node.Node.{Node}
use Rattle.tri_lattice.specs.Extent.{is_in}
use Rattle.amoebot_state.specs.declared.bot.Bot.{Bot}
use Rattle.amoebot_state.specs.declared.cell.CellName.{CellName}
use Rattle.amoebot_state.specs.declared.cell.CellName.TheVariants as name
use Rattle.amoebot_state.specs.declared.cell.Cell.{Cell}
use Rattle.amoebot_state.specs.declared.cell.Cell.TheVariants as cell
use Rattle.amoebot_state.specs.Pairs.{Pairs, body_in, cell_of, cell_value, spot_in}
use Rattle.amoebot_state.specs.Ports.{is_own}
use Rattle.amoebot_state.specs.Configs.{Config, bot_at, covers, has_values, is_close, is_wall, occupant}
use Rattle.amoebot_state.specs.Patches.{bot_eq, id_eq}

-- the occupant that a node is to have: the one that the cells give it, or else the one that it has
abbrev pub occupant_after : Config → Pairs → Node → Option ℕ
occupant_after c ps v = unwrap_or (spot_in ps v) (occupant c v)

-- the amoebot that an id is to have
abbrev pub body_after : Config → Pairs → ℕ → Option Bot
body_after c ps i = option_or (body_in ps i) (bot_at c i)

-- there is an amoebot, and it is this one
abbrev pub has_bot : Option Bot → Bot → Bool
has_bot None b = false
has_bot (Some a) b = bot_eq a b

-- the cell has this value
abbrev pub has_cell : Config → CellName → Cell → Bool
has_cell c (name.Spot v) (cell.Spot o) = id_eq (occupant c v) o
has_cell c (name.Spot v) (cell.Body b) = false
has_cell c (name.Body i) (cell.Spot o) = false
has_cell c (name.Body i) (cell.Body b) = has_bot (bot_at c i) b

-- each cell has its value
abbrev pub have_cells : Config → Pairs → Bool
have_cells c ps = list_all (λ (p : CellName × Cell). has_cell c (cell_of p) (cell_value p)) ps

-- the amoebot may stand in the frame
abbrev pub may_stand : Config → Bot → Bool
may_stand c b =
    is_in c.area b.head && is_in c.area b.tail && is_close b.head b.tail
    && not (is_wall c b.head) && not (is_wall c b.tail)
    && nat_lt b.rot 6 && has_values c.maxes b.mem && nat_eq (length b.mem) 8

-- the node is to be the id's
abbrev pub is_to_be : Config → Pairs → ℕ → Node → Bool
is_to_be c ps i v = id_eq (occupant_after c ps v) (Some i)

-- where the node is to be the id's, it is one of the amoebot
abbrev pub is_kept : Config → Pairs → ℕ → Bot → Node → Bool
is_kept c ps i b v = not (is_to_be c ps i v) || is_own b v

-- there is an amoebot whose nodes the new one keeps, where they are to be the id's
abbrev pub takes_over : Config → Pairs → ℕ → Bot → Option Bot → Bool
takes_over c ps i b None = false
takes_over c ps i b (Some old) = is_kept c ps i b old.head && is_kept c ps i b old.tail

-- an amoebot that the cells give an id fits
abbrev pub body_fits : Config → Pairs → ℕ → Bot → Bool
body_fits c ps i b =
    may_stand c b && has_bot (body_in ps i) b && is_to_be c ps i b.head && is_to_be c ps i b.tail
    && takes_over c ps i b (bot_at c i)

-- the amoebot of the id, if there is one, is to have the node
abbrev pub is_owned : Config → Pairs → Node → Option ℕ → Bool
is_owned c ps v None = true
is_owned c ps v (Some i) = covers (body_after c ps i) v

-- who has the node, if anyone does, is to have it, or the cells give it a body
abbrev pub is_left : Pairs → Option ℕ → Option ℕ → Bool
is_left ps o None = true
is_left ps o (Some j) = id_eq o (Some j) || is_some (body_in ps j)

-- an occupant that the cells give a node fits
abbrev pub spot_fits : Config → Pairs → Node → Option ℕ → Bool
spot_fits c ps v o = id_eq (occupant_after c ps v) o && is_owned c ps v o && is_left ps o (occupant c v)

-- what the cells give one of them fits
abbrev pub cell_fits : Config → Pairs → CellName → Cell → Bool
cell_fits c ps (name.Spot v) (cell.Spot o) = spot_fits c ps v o
cell_fits c ps (name.Spot v) (cell.Body b) = false
cell_fits c ps (name.Body i) (cell.Spot o) = false
cell_fits c ps (name.Body i) (cell.Body b) = body_fits c ps i b

-- and so does what they give each
abbrev pub all_fit : Config → Pairs → Bool
all_fit c ps = list_all (λ (p : CellName × Cell). cell_fits c ps (cell_of p) (cell_value p)) ps
