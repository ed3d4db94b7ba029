-- The definitions at small values, computed: what is expected was written out by hand.
use Rattle.std.proofs.Common.{◌≡◌, ◌≢◌, ℕ, zero, suc, List, pos, [], ◌∷◌, refl, map, true, false, ap, inl, inr, None, Some, Option}
use Rattle.std.specs.Prelude.{is_some, take}
use Rattle.std.proofs.lemmas.Bool.{cases_Bool}
use Rattle.std.proofs.lemmas.List.Elements.{All-from_recursion, recursion_from_All}
use Rattle.tri_lattice.specs.Lattice.{node_eq}
use Rattle.tri_lattice.proofs.Nodes.{node_eq-true}
use Rattle.tri_lattice.specs.declared.node.Node.{Node}
use Rattle.amoebot_state.specs.declared.bot.Bot.{Bot}
use Rattle.amoebot_state.specs.declared.bot.Chir.TheVariants.{Plus, Minus}
use Rattle.amoebot_state.specs.declared.bot.End.TheVariants.{Head, Tail}
use Rattle.amoebot_state.specs.declared.cell.CellName.{CellName}
use Rattle.amoebot_state.specs.declared.cell.CellName.TheVariants as name
use Rattle.amoebot_state.specs.declared.cell.Cell.{Cell}
use Rattle.amoebot_state.specs.declared.cell.Cell.TheVariants as cell
use Rattle.amoebot_state.specs.declared.refusal.WorldRefusal.{WorldRefusal}
use Rattle.amoebot_state.specs.declared.refusal.WorldRefusal.TheVariants.{OutOfBox, NotAdjacent, OnWall, Overlap, BadValue}
use Rattle.amoebot_state.specs.declared.found.Behind.TheVariants as there
use Rattle.amoebot_state.specs.Pairs.{CellChange, Triples, plain_patch}
use Rattle.amoebot_state.specs.Ports.{port, ports, global, local}
use Rattle.amoebot_state.specs.Configs.{Config, with_bot, IsValid, frame, frame_of, is_wall, walled_frame, with_these, bot_at, value}
use Rattle.amoebot_state.specs.Walls.{node_numbers, true_places}
use Rattle.amoebot_state.specs.Around.{behind_pair}
use Rattle.amoebot_state.specs.Zones.{Shown, is_number_among, zone, shown_with, shown, shown_alone}
use Rattle.amoebot_state.specs.Known.{known_zone, next_cell}
use Rattle.amoebot_state.specs.Patches.{HasOldValues, IsPatched, diff}
use Rattle.std.specs.Option.{option_or}
use Rattle.amoebot_state.specs.Refusals.{bot_fault}
use Rattle.amoebot_state.specs.Examples.{eight_by_eight}

abbrev pub at : ℕ → ℕ → Node
at x y = record { x = pos x; y = pos y }

abbrev pub spot : ℕ → ℕ → CellName
spot x y = name.Spot (at x y)

abbrev pub body : ℕ → CellName
body i = name.Body i

-- a node that has this occupant, and one that has none
abbrev pub held : ℕ → ℕ → ℕ → CellName × Cell
held x y i = (spot x y, cell.Spot (Some i))

abbrev pub free : ℕ → ℕ → CellName × Cell
free x y = (spot x y, cell.Spot None)

abbrev pub with_body : ℕ → Bot → CellName × Cell
with_body i b = (body i, cell.Body b)

-- what becomes of cells: an empty node that is entered, a node that another amoebot gets, and an amoebot
abbrev pub entered : ℕ → ℕ → ℕ → CellChange
entered x y i = (spot x y, cell.Spot None, cell.Spot (Some i))

abbrev pub handed_over : ℕ → ℕ → ℕ → ℕ → CellChange
handed_over x y i j = (spot x y, cell.Spot (Some i), cell.Spot (Some j))

abbrev pub body_changed : ℕ → Bot → Bot → CellChange
body_changed i was now = (body i, cell.Body was, cell.Body now)

-- eight variables, of which the first has this value
abbrev pub first : ℕ → List ℕ
first n = n ∷ 0 ∷ 0 ∷ 0 ∷ 0 ∷ 0 ∷ 0 ∷ 0 ∷ []

-- an amoebot with rotation 0 that goes round as the global directions, by its head and its tail
abbrev pub expanded : Node → Node → Bot
expanded head tail = record { head = head; tail = tail; rot = 0; chir = Plus; mem = first 0 }

abbrev pub contracted : Node → Bot
contracted v = expanded v v

-- one that goes round against them
abbrev pub against : ℕ → Node → Bot
against rot v = record { head = v; tail = v; rot = rot; chir = Minus; mem = first 0 }

-- amoebots in the area 0 0 8 8, with one variable, of 0 or 1
abbrev pub world : List Bot → Config
world bots = with_these (frame_of eight_by_eight (first 1)) bots

abbrev pub shows : ℕ → List (CellName × Cell) → Shown
shows i cells = shown_with (world []) i cells

-- local directions 0 to 5, with either chirality
directions : map (global (contracted (at 2 3))) (0 ∷ 1 ∷ 2 ∷ 3 ∷ 4 ∷ 5 ∷ []) ≡ 0 ∷ 1 ∷ 2 ∷ 3 ∷ 4 ∷ 5 ∷ []
directions = refl

directions_against : map (global (against 5 (at 2 3))) (0 ∷ 1 ∷ 2 ∷ 3 ∷ 4 ∷ 5 ∷ []) ≡ 5 ∷ 4 ∷ 3 ∷ 2 ∷ 1 ∷ 0 ∷ []
directions_against = refl

local_against : map (local (against 4 (at 2 3))) (0 ∷ 1 ∷ 2 ∷ 3 ∷ 4 ∷ 5 ∷ []) ≡ 4 ∷ 3 ∷ 2 ∷ 1 ∷ 0 ∷ 5 ∷ []
local_against = refl

-- one amoebot, on (2, 3), with no neighbour
abbrev pub alone : Config
alone = world (contracted (at 2 3) ∷ [])

zone_alone : zone alone 0 ≡ body 0 ∷ spot 2 3 ∷ spot 3 3 ∷ spot 2 4 ∷ spot 1 4 ∷ spot 1 3 ∷ spot 2 2 ∷ spot 3 2 ∷ []
zone_alone = refl

alone_is_shown : shown alone 0 ≡ shows 0 (with_body 0 (contracted (at 2 3)) ∷ held 2 3 0 ∷ free 3 3 ∷ free 2 4 ∷ free 1 4 ∷ free 1 3 ∷ free 2 2 ∷ free 3 2 ∷ [])
alone_is_shown = refl

-- expanded to (3, 3): that node and its body have changed
abbrev pub alone_out : Config
alone_out = world (expanded (at 3 3) (at 2 3) ∷ [])

abbrev pub going_out : Triples
going_out = entered 3 3 0 ∷ body_changed 0 (contracted (at 2 3)) (expanded (at 3 3) (at 2 3)) ∷ []

alone_changes : diff alone alone_out ≡ going_out
alone_changes = refl

-- its body was not on both nodes before
alone_is_not_out : ¬ HasOldValues alone_out going_out
alone_is_not_out found = let e = (recursion_from_All (λ (t : CellChange). value alone_out t.0 ≡ Some t.1) going_out found).0 in absurd (cc)

-- these values lead there
pub alone_patched : IsValid alone_out → IsPatched alone (plain_patch going_out) alone_out
alone_patched valid = record {
  valid = valid;
  same = record { rest = refl; size = refl; ids = same_ids };
  given = All-from_recursion (λ (p : CellName × Cell). value alone_out p.0 ≡ Some p.1) (plain_patch going_out) (refl, (refl, tt));
  kept = λ n none. kept n (recursion_from_All (λ (p : CellName × Cell). p.0 ≢ n) (plain_patch going_out) none);
}
  where
    same_ids : (i : ℕ) → is_some (bot_at alone_out i) ≡ is_some (bot_at alone i)
    same_ids zero = refl
    same_ids (suc i) = refl

    kept : (n : CellName) → (spot 3 3 ≢ n) × ((body 0 ≢ n) × Unit {0}) → value alone_out n ≡ value alone n
    kept (name.Body zero) ne = absurd (ne.1.0 refl)
    kept (name.Body (suc i)) ne = refl
    kept (name.Spot v) ne = elim (cases_Bool (node_eq (at 3 3) v)) [
      | inl there ↦ absurd (ne.0 (ap name.Spot (node_eq-true (at 3 3) v there)))
      | inr apart ↦ rw apart (elim (cases_Bool (node_eq (at 2 3) v)) [
        | inl t ↦ rw t refl
        | inr f ↦ rw f refl
      ])
    ]

-- an amoebot at the right edge: two nodes round it lie outside
abbrev pub edge : Config
edge = world (contracted (at 7 3) ∷ [])

zone_edge : zone edge 0 ≡ body 0 ∷ spot 7 3 ∷ spot 7 4 ∷ spot 6 4 ∷ spot 6 3 ∷ spot 7 2 ∷ []
zone_edge = refl

shown_edge : shown edge 0 ≡ shows 0 (with_body 0 (contracted (at 7 3)) ∷ held 7 3 0 ∷ free 7 4 ∷ free 6 4 ∷ free 6 3 ∷ free 7 2 ∷ [])
shown_edge = refl

-- an amoebot that goes round against the global directions, with rotation 5
abbrev pub turned : Config
turned = world (against 5 (at 2 3) ∷ [])

zone_turned : zone turned 0 ≡ body 0 ∷ spot 2 3 ∷ spot 3 2 ∷ spot 2 2 ∷ spot 1 3 ∷ spot 1 4 ∷ spot 2 4 ∷ spot 3 3 ∷ []
zone_turned = refl

shown_turned : shown turned 0 ≡ shows 0 (with_body 0 (against 5 (at 2 3)) ∷ held 2 3 0 ∷ free 3 2 ∷ free 2 2 ∷ free 1 3 ∷ free 1 4 ∷ free 2 4 ∷ free 3 3 ∷ [])
shown_turned = refl

-- its local direction 1 is the global direction 4
abbrev pub turned_out : Bot
turned_out = record { head = at 2 2; tail = at 2 3; rot = 5; chir = Minus; mem = first 0 }

turned_changes : diff turned (world (turned_out ∷ [])) ≡ entered 2 2 0 ∷ body_changed 0 (against 5 (at 2 3)) turned_out ∷ []
turned_changes = refl

-- two neighbours: nine cells each
abbrev pub pair : Config
pair = world (contracted (at 2 3) ∷ contracted (at 3 3) ∷ [])

zone_pair_0 : zone pair 0 ≡ body 0 ∷ spot 2 3 ∷ spot 3 3 ∷ spot 2 4 ∷ spot 1 4 ∷ spot 1 3 ∷ spot 2 2 ∷ spot 3 2 ∷ body 1 ∷ []
zone_pair_0 = refl

zone_pair_1 : zone pair 1 ≡ body 1 ∷ spot 3 3 ∷ spot 4 3 ∷ spot 3 4 ∷ spot 2 4 ∷ spot 2 3 ∷ spot 3 2 ∷ spot 4 2 ∷ body 0 ∷ []
zone_pair_1 = refl

shown_pair_0 : shown pair 0 ≡ shows 0 (with_body 0 (contracted (at 2 3)) ∷ held 2 3 0 ∷ held 3 3 1 ∷ free 2 4 ∷ free 1 4 ∷ free 1 3 ∷ free 2 2 ∷ free 3 2 ∷ with_body 1 (contracted (at 3 3)) ∷ [])
shown_pair_0 = refl

shown_pair_1 : shown pair 1 ≡ shows 1 (with_body 1 (contracted (at 3 3)) ∷ held 3 3 1 ∷ free 4 3 ∷ free 3 4 ∷ free 2 4 ∷ held 2 3 0 ∷ free 3 2 ∷ free 4 2 ∷ with_body 0 (contracted (at 2 3)) ∷ [])
shown_pair_1 = refl

-- a change of memory alone changes the body alone
abbrev pub marked : Bot
marked = record { head = at 2 3; tail = at 2 3; rot = 0; chir = Plus; mem = first 1 }

marking_changes : diff pair (world (marked ∷ contracted (at 3 3) ∷ [])) ≡ body_changed 0 (contracted (at 2 3)) marked ∷ []
marking_changes = refl

-- an expanded amoebot, with a neighbour behind its tail: ten ports lead to eight nodes, and the zone has twelve cells
abbrev pub stretched : Bot
stretched = expanded (at 3 3) (at 2 3)

abbrev pub train : Config
train = world (stretched ∷ contracted (at 1 3) ∷ [])

ports_stretched : ports stretched ≡ port Head 0 ∷ port Head 1 ∷ port Head 2 ∷ port Head 4 ∷ port Head 5 ∷ port Tail 1 ∷ port Tail 2 ∷ port Tail 3 ∷ port Tail 4 ∷ port Tail 5 ∷ []
ports_stretched = refl

zone_train_0 : zone train 0 ≡ body 0 ∷ spot 3 3 ∷ spot 2 3 ∷ spot 4 3 ∷ spot 3 4 ∷ spot 2 4 ∷ spot 3 2 ∷ spot 4 2 ∷ spot 1 4 ∷ spot 1 3 ∷ spot 2 2 ∷ body 1 ∷ []
zone_train_0 = refl

pub shown_train_0 : shown train 0 ≡ shows 0 (with_body 0 stretched ∷ held 3 3 0 ∷ held 2 3 0 ∷ free 4 3 ∷ free 3 4 ∷ free 2 4 ∷ free 3 2 ∷ free 4 2 ∷ free 1 4 ∷ held 1 3 1 ∷ free 2 2 ∷ with_body 1 (contracted (at 1 3)) ∷ [])
shown_train_0 = refl

-- the same zone as it is read: the body first; then its nodes are known, and the neighbour once the node that it is on was read
abbrev pub read_train : ℕ → List (CellName × Cell)
read_train n = take n (with_body 0 stretched ∷ held 3 3 0 ∷ held 2 3 0 ∷ free 4 3 ∷ free 3 4 ∷ free 2 4 ∷ free 3 2 ∷ free 4 2 ∷ free 1 4 ∷ held 1 3 1 ∷ free 2 2 ∷ with_body 1 (contracted (at 1 3)) ∷ [])

known_of_nothing : known_zone eight_by_eight 0 (read_train 0) ≡ body 0 ∷ []
known_of_nothing = refl

known_of_the_body : known_zone eight_by_eight 0 (read_train 1) ≡ body 0 ∷ spot 3 3 ∷ spot 2 3 ∷ spot 4 3 ∷ spot 3 4 ∷ spot 2 4 ∷ spot 3 2 ∷ spot 4 2 ∷ spot 1 4 ∷ spot 1 3 ∷ spot 2 2 ∷ []
known_of_the_body = refl

known_before_the_neighbour : known_zone eight_by_eight 0 (read_train 9) ≡ known_zone eight_by_eight 0 (read_train 1)
known_before_the_neighbour = refl

known_with_the_neighbour : known_zone eight_by_eight 0 (read_train 10) ≡ body 0 ∷ spot 3 3 ∷ spot 2 3 ∷ spot 4 3 ∷ spot 3 4 ∷ spot 2 4 ∷ spot 3 2 ∷ spot 4 2 ∷ spot 1 4 ∷ spot 1 3 ∷ spot 2 2 ∷ body 1 ∷ []
known_with_the_neighbour = refl

next_cells : map (λ n. next_cell eight_by_eight 0 (read_train n)) (0 ∷ 1 ∷ 2 ∷ 9 ∷ 10 ∷ 11 ∷ 12 ∷ []) ≡ Some (body 0) ∷ Some (spot 3 3) ∷ Some (spot 2 3) ∷ Some (spot 1 3) ∷ Some (spot 2 2) ∷ Some (body 1) ∷ None ∷ []
next_cells = refl

zone_train_1 : zone train 1 ≡ body 1 ∷ spot 1 3 ∷ spot 2 3 ∷ spot 1 4 ∷ spot 0 4 ∷ spot 0 3 ∷ spot 1 2 ∷ spot 2 2 ∷ body 0 ∷ []
zone_train_1 = refl

shown_train_1 : shown train 1 ≡ shows 1 (with_body 1 (contracted (at 1 3)) ∷ held 1 3 1 ∷ held 2 3 0 ∷ free 1 4 ∷ free 0 4 ∷ free 0 3 ∷ free 1 2 ∷ free 2 2 ∷ with_body 0 stretched ∷ [])
shown_train_1 = refl

-- after it pulled the neighbour: the one zone has nine cells, and the other twelve
abbrev pub pulled : Config
pulled = world (contracted (at 3 3) ∷ expanded (at 2 3) (at 1 3) ∷ [])

pulling_changes : diff train pulled ≡ handed_over 2 3 0 1 ∷ body_changed 0 stretched (contracted (at 3 3)) ∷ body_changed 1 (contracted (at 1 3)) (expanded (at 2 3) (at 1 3)) ∷ []
pulling_changes = refl

zone_pulled_0 : zone pulled 0 ≡ body 0 ∷ spot 3 3 ∷ spot 4 3 ∷ spot 3 4 ∷ spot 2 4 ∷ spot 2 3 ∷ spot 3 2 ∷ spot 4 2 ∷ body 1 ∷ []
zone_pulled_0 = refl

shown_pulled_0 : shown pulled 0 ≡ shows 0 (with_body 0 (contracted (at 3 3)) ∷ held 3 3 0 ∷ free 4 3 ∷ free 3 4 ∷ free 2 4 ∷ held 2 3 1 ∷ free 3 2 ∷ free 4 2 ∷ with_body 1 (expanded (at 2 3) (at 1 3)) ∷ [])
shown_pulled_0 = refl

zone_pulled_1 : zone pulled 1 ≡ body 1 ∷ spot 2 3 ∷ spot 1 3 ∷ spot 3 3 ∷ spot 2 4 ∷ spot 1 4 ∷ spot 2 2 ∷ spot 3 2 ∷ spot 0 4 ∷ spot 0 3 ∷ spot 1 2 ∷ body 0 ∷ []
zone_pulled_1 = refl

-- what is not in the zone leaves a gap: here ids 0 and 2 have no amoebot, and id 3 keeps its number
abbrev scattered : Config
scattered = world (contracted (at 6 6) ∷ contracted (at 2 3) ∷ contracted (at 0 0) ∷ contracted (at 3 3) ∷ [])

alone_scattered : shown_alone (shown scattered 1) ≡ record (world []) { bots = None ∷ Some (contracted (at 2 3)) ∷ None ∷ Some (contracted (at 3 3)) ∷ [] }
alone_scattered = refl

alone_shows : shown (shown_alone (shown scattered 1)) 1 ≡ shown scattered 1
alone_shows = refl

-- an id that has no amoebot has no zone
no_zone : zone (shown_alone (shown scattered 1)) 2 ≡ []
no_zone = refl

-- what a list of amoebots is refused for: each is judged beside those before it
abbrev fault_beside : Config → List Bot → Option WorldRefusal
fault_beside c [] = None
fault_beside c (b ∷ bots) = option_or (bot_fault c b) (fault_beside (with_bot c b) bots)

abbrev fault : List Bot → Option WorldRefusal
fault bots = fault_beside (world []) bots

no_fault : fault (stretched ∷ contracted (at 1 3) ∷ []) ≡ None
no_fault = refl

head_outside : fault (contracted (at 2 3) ∷ contracted (at 9 3) ∷ []) ≡ Some (OutOfBox 1)
head_outside = refl

tail_outside : fault (expanded (at 7 3) (at 8 3) ∷ []) ≡ Some (OutOfBox 0)
tail_outside = refl

torn : fault (expanded (at 2 3) (at 4 3) ∷ []) ≡ Some (NotAdjacent 0)
torn = refl

on_a_head : fault (contracted (at 2 3) ∷ contracted (at 2 3) ∷ []) ≡ Some (Overlap 1)
on_a_head = refl

on_a_tail : fault (stretched ∷ contracted (at 2 3) ∷ []) ≡ Some (Overlap 1)
on_a_tail = refl

its_tail_on_another : fault (contracted (at 2 3) ∷ stretched ∷ []) ≡ Some (Overlap 1)
its_tail_on_another = refl

abbrev too_high : Node → Node → Bot
too_high head tail = record { head = head; tail = tail; rot = 0; chir = Plus; mem = first 2 }

above_its_maximum : fault (too_high (at 2 3) (at 2 3) ∷ []) ≡ Some (BadValue 0)
above_its_maximum = refl

-- of the faults of one amoebot the first in their order
outside_first : fault (contracted (at 2 3) ∷ too_high (at 9 3) (at 2 3) ∷ []) ≡ Some (OutOfBox 1)
outside_first = refl

torn_before_overlap : fault (contracted (at 2 3) ∷ too_high (at 4 3) (at 2 3) ∷ []) ≡ Some (NotAdjacent 1)
torn_before_overlap = refl

overlap_before_value : fault (contracted (at 2 3) ∷ too_high (at 2 3) (at 2 3) ∷ []) ≡ Some (Overlap 1)
overlap_before_value = refl

-- of the faults of several amoebots those of the first one, whatever their order
first_amoebot_first : fault (too_high (at 2 3) (at 2 3) ∷ contracted (at 9 3) ∷ []) ≡ Some (BadValue 0)
first_amoebot_first = refl

-- a rotation counts with the local direction with chirality `+`
abbrev with_rotation : ℕ → Bot
with_rotation rot = record { head = at 2 3; tail = at 2 3; rot = rot; chir = Plus; mem = first 0 }

plus_goes_with : global (with_rotation 5) 3 ≡ 2
plus_goes_with = refl

-- walls by the rising numbers of their nodes: each once, and none outside
numbers_of_nodes : node_numbers eight_by_eight (at 7 7 ∷ at 0 0 ∷ at 3 3 ∷ at 0 0 ∷ []) ≡ 0 ∷ 27 ∷ 63 ∷ []
numbers_of_nodes = refl

no_number_outside : node_numbers eight_by_eight (at 8 0 ∷ at 0 8 ∷ []) ≡ []
no_number_outside = refl

places_of_a_grid : true_places (false ∷ true ∷ true ∷ []) ≡ 1 ∷ 2 ∷ []
places_of_a_grid = refl

-- two walls, one of them beside the amoebot on (2, 3)
abbrev pub beside_walls : Config
beside_walls = with_these (walled_frame eight_by_eight (at 7 7 ∷ at 3 3 ∷ []) (first 1)) (contracted (at 2 3) ∷ [])

walls_listed : beside_walls.walls ≡ 27 ∷ 63 ∷ []
walls_listed = refl

-- a wall is a node of the zone that has no occupant, and no other wall is shown
zone_beside_walls : zone beside_walls 0 ≡ zone alone 0
zone_beside_walls = refl

shown_beside_walls : shown beside_walls 0 ≡ record (shown alone 0) { walls = 27 ∷ [] }
unfolding is_number_among
shown_beside_walls = refl

wall_is_empty : value beside_walls (spot 3 3) ≡ Some (cell.Spot None)
wall_is_empty = refl

walls_told : map (is_wall beside_walls) (at 3 3 ∷ at 2 3 ∷ at 7 7 ∷ at 8 8 ∷ []) ≡ true ∷ false ∷ true ∷ false ∷ []
walls_told = refl

behind_walls : map (behind_pair beside_walls 0) (port Head 0 ∷ port Head 1 ∷ port Tail 0 ∷ []) ≡ there.Wall ∷ there.Empty ∷ there.NoPort ∷ []
behind_walls = refl

walls_stay : diff beside_walls (with_bot (frame beside_walls) (too_high (at 2 3) (at 2 3))) ≡ body_changed 0 (contracted (at 2 3)) (too_high (at 2 3) (at 2 3)) ∷ []
walls_stay = refl

-- head or tail on a wall, behind what is torn and before what overlaps
abbrev beside_one : List Bot → Option WorldRefusal
beside_one bots = fault_beside (walled_frame eight_by_eight (at 2 3 ∷ []) (first 1)) bots

head_on_wall : beside_one (contracted (at 3 3) ∷ expanded (at 2 3) (at 1 3) ∷ []) ≡ Some (OnWall 1)
head_on_wall = refl

tail_on_wall : beside_one (expanded (at 1 3) (at 2 3) ∷ []) ≡ Some (OnWall 0)
tail_on_wall = refl

torn_before_wall : beside_one (expanded (at 2 3) (at 4 3) ∷ []) ≡ Some (NotAdjacent 0)
torn_before_wall = refl

outside_before_wall : fault_beside (walled_frame eight_by_eight (at 7 3 ∷ []) (first 1)) (expanded (at 8 3) (at 7 3) ∷ []) ≡ Some (OutOfBox 0)
outside_before_wall = refl

wall_before_overlap : beside_one (contracted (at 3 3) ∷ expanded (at 3 3) (at 2 3) ∷ []) ≡ Some (OnWall 1)
wall_before_overlap = refl

wall_before_value : beside_one (too_high (at 2 3) (at 2 3) ∷ []) ≡ Some (OnWall 0)
wall_before_value = refl
