-- The walls among the nodes of cells that were read.
use Rattle.std.proofs.Common.{◌≡◌, ◌<◌, ◌≤◌, ◌+◌, ◌*◌, ℕ, [], ◌∷◌, ◌++◌, length, take, drop, get_or, filter, ap, sym, ◌∙◌, refl, arith, None}
use Rattle.std.proofs.lemmas.List.Elements.{filter-append}
use Rattle.std.proofs.lemmas.List.Kept.{IsStrictlyIncreasing-filter}
use Rattle.tri_lattice.specs.Extent.{node_at}
use Rattle.tri_lattice.proofs.Boxes.{index_of_node_at, node_at_index_of}
use Rattle.std.proofs.lemmas.List.{length-append, take_more, take-append-drop}
use Rattle.amoebot_state.specs.declared.cell.CellName.{CellName}
use Rattle.amoebot_state.specs.declared.cell.CellName.TheVariants as name
use Rattle.amoebot_state.specs.declared.cell.Cell.{Cell}
use Rattle.amoebot_state.specs.declared.cell.Cell.TheVariants as cell
use Rattle.amoebot_state.specs.Configs.{Config, IsValid, is_wall}
use Rattle.amoebot_state.specs.Known.{walls_read}
use Rattle.amoebot_state.specs.Pairs.{Pairs, nodes_in}
use Rattle.amoebot_state.specs.Walls.{has_node, has_number, node_numbers}
use Rattle.amoebot_state.specs.Zones.{is_number_among, walls_among}
use Rattle.amoebot_state.proofs.Members.{filter_has, Has-filter, length-filter-le}
use Rattle.amoebot_state.proofs.Patched.{All-at}
use Rattle.amoebot_state.proofs.RisingLists.{Rising-same}
use Rattle.amoebot_state.proofs.Walls.{node_numbers_has, Has-node_numbers, node_numbers_rise, rising_numbers, has_number-Has, Has-has_number, has_node-Has, Has-has_node}

-- their numbers are those of the configuration's walls among the nodes
pub walls_are : (c : Config) (cells : Pairs) → IsValid c → node_numbers c.area (walls_read c cells) ≡ walls_among c cells
unfolding is_number_among
walls_are c cells valid = Rising-same (λ n. n)
    (node_numbers_rise c.area (walls_read c cells))
    (rising_numbers (walls_among c cells) (IsStrictlyIncreasing-filter (λ k. has_node (nodes_in cells) (node_at c.area k)) c.walls valid.rising))
    (λ k has.
    let (v, read, at) = node_numbers_has c.area (walls_read c cells) k has in
    let (among, wall) = filter_has (is_wall c) (nodes_in cells) read in
    let same = (node_at_index_of c.area v k at).1 in
    Has-filter (λ k. has_node (nodes_in cells) (node_at c.area k)) c.walls
    (has_number-Has c.walls k (ap (has_number c.walls) (sym at) ∙ wall))
    (ap (has_node (nodes_in cells)) same ∙ Has-has_node (nodes_in cells) v among))
    (λ k has.
    let (listed, among) = filter_has (λ k. has_node (nodes_in cells) (node_at c.area k)) c.walls has in
    let v = node_at c.area k in
    let at = index_of_node_at c.area k (All-at (λ k. k < c.area.w * c.area.h) c.walls valid.walled listed) in
    Has-node_numbers c.area (walls_read c cells) v k (Has-filter (is_wall c) (nodes_in cells) (has_node-Has (nodes_in cells) v among) (ap (has_number c.walls) at ∙ Has-has_number c.walls k listed)) at)

pub nodes_in-append : (ps qs : Pairs) → nodes_in (ps ++ qs) ≡ nodes_in ps ++ nodes_in qs
nodes_in-append [] qs = refl
nodes_in-append ((name.Spot v, x) ∷ ps) qs = ap (λ vs. v ∷ vs) (nodes_in-append ps qs)
nodes_in-append ((name.Body i, x) ∷ ps) qs = nodes_in-append ps qs

pub walls_read-append : (c : Config) (ps qs : Pairs) → walls_read c (ps ++ qs) ≡ walls_read c ps ++ walls_read c qs
walls_read-append c ps qs = ap (filter (is_wall c)) (nodes_in-append ps qs) ∙ filter-append (is_wall c) (nodes_in ps) (nodes_in qs)

-- whether a cell is a wall does not hang on what it holds
one_cell : (c : Config) (n : CellName) (x y : Cell) → walls_read c ((n, x) ∷ []) ≡ walls_read c ((n, y) ∷ [])
one_cell c (name.Spot v) x y = refl
one_cell c (name.Body i) x y = refl

-- one cell more
pub walls_read_more : (c : Config) (cells : Pairs) (i : ℕ) (d : CellName × Cell) → i < length cells → walls_read c (take (i + 1) cells) ≡ walls_read c (take i cells) ++ walls_read c (((get_or cells i d).0, cell.Spot None) ∷ [])
walls_read_more c cells i d lt =
    let at = get_or cells i d in
    ap (walls_read c) (take_more cells i d lt) ∙ walls_read-append c (take i cells) (at ∷ [])
    ∙ ap (λ vs. walls_read c (take i cells) ++ vs) (one_cell c at.0 at.1 (cell.Spot None))

-- among the first cells there are no more walls than nodes among all
pub few_walls_read : (c : Config) (cells : Pairs) (n : ℕ) → length (walls_read c (take n cells)) ≤ length (nodes_in cells)
few_walls_read c cells n =
    let parts : nodes_in cells ≡ nodes_in (take n cells) ++ nodes_in (drop n cells) = ap nodes_in (sym (take-append-drop n cells)) ∙ nodes_in-append (take n cells) (drop n cells) in
    omega (arith, length-filter-le (is_wall c) (nodes_in (take n cells)), ap length parts, length-append (nodes_in (take n cells)) (nodes_in (drop n cells)))
