-- What a caller knows of walls once one more cell is won: those among the nodes that it holds, of which there are few.
use Rattle.std.proofs.Common.{◌≡◌, ℕ, ◌<◌, ◌≤◌, List, [], ◌∷◌, ◌++◌, length, take, drop, ap, sym, ◌∙◌, subst, arith, Bool, true, false}
use Rattle.std.specs.Prelude.{if◌then◌else◌}
use Rattle.std.proofs.lemmas.Bool.{false≢true}
use Rattle.std.proofs.lemmas.List.{append-nil, length-append, take-append-drop}
use Rattle.tri_lattice.specs.declared.node.Node.{Node}
use Rattle.tri_lattice.specs.Extent.{Extent}
use Rattle.amoebot_state.specs.declared.cell.CellName.{CellName}
use Rattle.amoebot_state.specs.declared.cell.CellName.TheVariants as name
use Rattle.amoebot_state.specs.declared.cell.Cell.{Cell}
use Rattle.amoebot_state.specs.Configs.{Config, is_wall}
use Rattle.amoebot_state.specs.Known.{AreReadInOrder, is_wall_cell, walls_read}
use Rattle.amoebot_state.specs.Limits.{most_nodes}
use Rattle.amoebot_state.specs.Pairs.{Pairs, nodes_in}
use Rattle.amoebot_state.specs.Zones.{Shown, shown}
use Rattle.amoebot_state.proofs.Members.{length-filter-le}
use Rattle.amoebot_state.proofs.Shows.{few_nodes}
use Rattle.amoebot_state.proofs.WallsRead.{nodes_in-append, walls_read-append}
use Rattle.amoebot_state.specs.declared.verdict.Verdict.{Verdict}
use Rattle.claim_rule.specs.declared.activation.Room.{Room}
use Rattle.claim_rule.specs.declared.views.View.{View}
use Rattle.claim_rule.specs.Plays.{about}
use Rattle.claim_rule.specs.Views.{setup_at}
use Rattle.claim_rule.specs.Tokens.{KnowsWalls}

-- a node that is a wall comes behind the walls
pub walls_with : (w : Config) (cells : Pairs) (v : Node) (x : Cell) → is_wall w v ≡ true → walls_read w (cells ++ (name.Spot v, x) ∷ []) ≡ walls_read w cells ++ v ∷ []
walls_with w cells v x wall = walls_read-append w cells ((name.Spot v, x) ∷ []) ∙ ap (λ (b : Bool). walls_read w cells ++ (if b then v ∷ [] else [])) wall

-- another cell leaves them
pub walls_without : (w : Config) (cells : Pairs) (n : CellName) (x : Cell) → is_wall_cell w n ≡ false → walls_read w (cells ++ (n, x) ∷ []) ≡ walls_read w cells
walls_without w cells (name.Spot v) x none = walls_read-append w cells ((name.Spot v, x) ∷ []) ∙ ap (λ (b : Bool). walls_read w cells ++ (if b then v ∷ [] else [])) none ∙ append-nil (walls_read w cells)
walls_without w cells (name.Body i) x none = walls_read-append w cells ((name.Body i, x) ∷ []) ∙ append-nil (walls_read w cells)

-- cells that were read in order have few nodes
few_read : (a : Extent) (i : ℕ) (cells : Pairs) → AreReadInOrder a i cells → length (nodes_in cells) ≤ most_nodes
few_read a i cells read =
    let all : Pairs = (shown read.config i).cells in
    let front : Pairs = take (length cells) all in
    let rest : Pairs = drop (length cells) all in
    let parts : nodes_in all ≡ nodes_in front ++ nodes_in rest = ap nodes_in (sym (take-append-drop (length cells) all)) ∙ nodes_in-append front rest in
    omega (arith, few_nodes read.config i read.valid, ap (λ (ps : Pairs). length (nodes_in ps)) read.front, ap length parts, length-append (nodes_in front) (nodes_in rest))

-- so there is room for one wall more, where that is the node that was read last
pub wall_has_room : (w : Config) (a : Extent) (i : ℕ) (cells : Pairs) (v : Node) (x : Cell) (walls : List Node) → walls ≡ walls_read w cells → AreReadInOrder a i (cells ++ (name.Spot v, x) ∷ []) → length walls < most_nodes
wall_has_room w a i cells v x walls known read =
    let more : Pairs = cells ++ (name.Spot v, x) ∷ [] in
    let parts : length (nodes_in more) ≡ length (nodes_in cells ++ v ∷ []) = ap length (nodes_in-append cells ((name.Spot v, x) ∷ [])) in
    omega (arith, few_read a i more read, parts, length-append (nodes_in cells) (v ∷ []), length-filter-le (is_wall w) (nodes_in cells), ap length known)

-- and of any cell that is a wall
pub wall_fits : (w : Config) (a : Extent) (i : ℕ) (cells : Pairs) (n : CellName) (x : Cell) (walls : List Node) → walls ≡ walls_read w cells → AreReadInOrder a i (cells ++ (n, x) ∷ []) → is_wall_cell w n ≡ true → length walls < most_nodes
wall_fits w a i cells (name.Spot v) x walls known read wall = wall_has_room w a i cells v x walls known read
wall_fits w a i cells (name.Body b) x walls known read wall = absurd (false≢true wall)

-- a step that leaves a seat's terms leaves what it knows of walls
pub still_known : {D : Type 0} (verdict : D → Shown → Verdict) (old new : View D) (r : Room) → new.terms ≡ old.terms → KnowsWalls (about verdict old).world r → KnowsWalls (about verdict new).world r
still_known verdict old new r same known = subst (λ o. KnowsWalls (setup_at verdict o).world r) (sym same) known
