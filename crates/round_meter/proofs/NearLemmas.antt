-- The amoebots near cells, taken up one after another.
use Rattle.std.proofs.Common.{◌≡◌, ◌∙◌, ◌<◌, ◌+◌, ◌++◌, ℕ, List, [], ◌∷◌, length, get_or, take, nat_eq, ap, sym, subst, arith, append-nil}
use Rattle.std.specs.List.{All, fold, flat_map}
use Rattle.std.proofs.lemmas.List.{take_more, length-map, map-append, get_or-map, flat_map_more}
use Rattle.std.proofs.lemmas.List.Elements.{All-get_or, filter_map-append}
use Rattle.std.proofs.lemmas.List.Sums.{fold-append}
use Rattle.tri_lattice.specs.declared.node.Node.{Node}
use Rattle.tri_lattice.specs.Lattice.{ring, node_eq}
use Rattle.amoebot_state.specs.Pairs.{CellChange, Triples}
use Rattle.amoebot_state.specs.Configs.{Config, occupant}
use Rattle.amoebot_state.specs.Storage.{with_new}
use Rattle.round_meter.specs.Asking.{IsInReach, cells_among, closed_ring, nodes_of_cell, ids_on, ids_round}

-- ids that are taken up after others
abbrev pub taking : List ℕ → List ℕ → List ℕ
taking ids more = fold (with_new nat_eq) ids more

-- one node more
on_more : (c : Config) (ids : List ℕ) (vs : List Node) (v : Node) → taking ids (ids_on c (vs ++ v ∷ [])) ≡ taking (taking ids (ids_on c vs)) (ids_on c (v ∷ []))
on_more c ids vs v = ap (taking ids) (filter_map-append (occupant c) vs (v ∷ [])) ∙ fold-append (with_new nat_eq) ids (ids_on c vs) (ids_on c (v ∷ []))

pub ring_more : (c : Config) (ids : List ℕ) (v : Node) (k : ℕ) (d : Node) → k < length (ring v)
    → taking ids (ids_on c (v ∷ take (k + 1) (ring v))) ≡ taking (taking ids (ids_on c (v ∷ take k (ring v)))) (ids_on c (get_or (ring v) k d ∷ []))
ring_more c ids v k d lt = ap (λ vs. taking ids (ids_on c (v ∷ vs))) (take_more (ring v) k d lt) ∙ on_more c ids (v ∷ take k (ring v)) (get_or (ring v) k d)

-- a node with those round it
pub round_whole : (c : Config) (ids : List ℕ) (v : Node) → taking ids (ids_on c (closed_ring v)) ≡ taking ids (ids_round c (v ∷ []))
round_whole c ids v = ap (taking ids) (sym (append-nil (ids_on c (closed_ring v))))

-- one node more, with those round it
pub round_more : (c : Config) (ids : List ℕ) (vs : List Node) (k : ℕ) (d : Node) → k < length vs
    → taking ids (ids_round c (take (k + 1) vs)) ≡ taking (taking ids (ids_round c (take k vs))) (ids_round c (get_or vs k d ∷ []))
round_more c ids vs k d lt =
    let round = λ (v : Node). ids_on c (closed_ring v) in
    let last = get_or vs k d in
    ap (λ us. taking ids (ids_round c us)) (take_more vs k d lt)
    ∙ ap (taking ids) (sym (flat_map_more round [] (take k vs) last))
    ∙ fold-append (with_new nat_eq) ids (ids_round c (take k vs)) (round last)
    ∙ round_whole c (taking ids (ids_round c (take k vs))) last

-- nodes that are taken up after others
abbrev pub taking_nodes : List Node → List Node → List Node
taking_nodes vs more = fold (with_new node_eq) vs more

-- the nodes of one cell more
pub nodes_more : (c : Config) (vs : List Node) (ts : Triples) (k : ℕ) (t : CellChange) → k < length ts
    → taking_nodes vs (flat_map (nodes_of_cell c) (cells_among (take (k + 1) ts))) ≡ taking_nodes (taking_nodes vs (flat_map (nodes_of_cell c) (cells_among (take k ts)))) (nodes_of_cell c (get_or ts k t).0)
nodes_more c vs ts k t lt =
    let name = λ (u : CellChange). u.0 in
    let first = cells_among (take k ts) in
    let last = (get_or ts k t).0 in
    ap (λ us. taking_nodes vs (flat_map (nodes_of_cell c) (cells_among us))) (take_more ts k t lt)
    ∙ ap (λ ns. taking_nodes vs (flat_map (nodes_of_cell c) ns)) (map-append name (take k ts) (get_or ts k t ∷ []))
    ∙ ap (taking_nodes vs) (sym (flat_map_more (nodes_of_cell c) [] first last))
    ∙ fold-append (with_new node_eq) vs (flat_map (nodes_of_cell c) first) (nodes_of_cell c last)

-- each cell is in reach
pub reach_at : (c : Config) (ts : Triples) (k : ℕ) (t : CellChange) → All (IsInReach c) (cells_among ts) → k < length ts → IsInReach c (get_or ts k t).0
reach_at c ts k t all lt =
    let name = λ (u : CellChange). u.0 in
    let mapped : k < length (cells_among ts) = omega (arith, lt, length-map ts name) in
    subst (IsInReach c) (get_or-map name ts k t (name t) lt) (All-get_or (IsInReach c) (cells_among ts) k (name t) mapped all)
