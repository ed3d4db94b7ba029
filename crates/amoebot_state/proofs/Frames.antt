-- Frames: walls in a grid, and lists of walls.
use Rattle.std.proofs.Common.{◌≡◌, ◌<◌, ◌+◌, ◌*◌, ℕ, List, [], ◌∷◌, ◌++◌, length, take, get_or, set, replicate, Bool, true, false, not, ◌&&◌, ◌||◌, ap, sym, ◌∙◌, refl, subst, inl, inr, arith, Some}
use Rattle.std.specs.Bool.{Decides}
use Rattle.std.specs.Prelude.{is_some, slice_get}
use Rattle.std.proofs.lemmas.Bool.{cases_Bool, cases_eq, false≢true, or_from}
use Rattle.std.proofs.lemmas.List.{get_or-set_same, get_or-set_other, length-set, length-replicate}
use Rattle.std.proofs.lemmas.List.Folds.{list_any-append}
use Rattle.std.proofs.lemmas.Option.{same_Some, slice_get-get_or}
use Rattle.tri_lattice.specs.declared.node.Node.{Node}
use Rattle.tri_lattice.specs.Extent.{Extent, IsArea, index_of, is_in}
use Rattle.tri_lattice.specs.Lattice.{node_eq}
use Rattle.tri_lattice.proofs.Boxes.{index_once}
use Rattle.tri_lattice.proofs.Nodes.{node_eq-true}
use Rattle.amoebot_state.specs.Configs.{Config, IsValid, is_wall, walled_frame}
use Rattle.amoebot_state.specs.Refusals.{AreWalls, IsFirstBadWall, is_bad_wall}
use Rattle.amoebot_state.specs.Storage.{IsFrame, IsMarked, gridded_frame}
use Rattle.amoebot_state.specs.Walls.{has_node, has_number, node_numbers, true_places}
use Rattle.amoebot_state.proofs.Faults.{walled_frame_is_valid}
use Rattle.amoebot_state.proofs.Members.{Has, here, Has-append_right, one_everywhere}
use Rattle.amoebot_state.proofs.Options.{none_if}
use Rattle.amoebot_state.proofs.Walls.{Has-has_node, marked_places, nodes_are_their_numbers, true_place, true_places_same}

-- what a grid says of the number of a node
pub wall_by : (a : Extent) (maxes : List ℕ) (g : List Bool) (n : ℕ) (r : Bool) (c : Config) → gridded_frame a maxes g ≡ c → r ≡ get_or g n false → (v : Node) → index_of c.area v ≡ Some n → r ≡ is_wall c v
wall_by a maxes g n r c is e v at =
    e ∙ sym (true_place g n) ∙ ap (λ (d : Config). has_number d.walls (Some n)) is ∙ ap (has_number c.walls) (sym at)

or_false : (b : Bool) → (b || false) ≡ b
or_false true = refl
or_false false = refl

-- a node more
has_push : (vs : List Node) (v u : Node) → (v ≡ u → ⊥) → has_node (vs ++ v ∷ []) u ≡ has_node vs u
has_push vs v u apart = list_any-append (λ w. node_eq w u) vs (v ∷ []) ∙ elim (cases_Bool (node_eq v u)) [
  | inl t ↦ absurd (apart (node_eq-true v u t))
  | inr f ↦ rw f (or_false (has_node vs u))
]

-- a grid marks one node more
pub mark_more : (a : Extent) (before : List Node) (v : Node) (g h : List Bool) (k : ℕ) → index_of a v ≡ Some k → k < length g → h ≡ set g k true → IsMarked a before g → IsMarked a (before ++ v ∷ []) h
mark_more a before v g h k at lt e marked =
    let P : List Bool → Type 0 = λ x. IsMarked a (before ++ v ∷ []) x in
    subst P (sym e) (record {
      size = length-set g k true ∙ marked.size;
      right = λ u j other. elim (cases_eq j k) [
        | inl same ↦
            let node : v ≡ u = index_once a v u k at (other ∙ ap Some same) in
            ap (λ i. get_or (set g k true) i false) same ∙ get_or-set_same g k true false lt
            ∙ sym (Has-has_node (before ++ v ∷ []) u (subst (λ w. Has w (before ++ v ∷ [])) node (Has-append_right before here)))
        | inr ne ↦
            get_or-set_other g k j true false ne ∙ marked.right u j other
            ∙ sym (has_push before v u (λ node. ne (same_Some j k (sym other ∙ ap (index_of a) (sym node) ∙ at))))
      ];
    })

-- which it may, where the node was not marked yet
pub may_mark : (a : Extent) (before : List Node) (v : Node) (g : List Bool) (k : ℕ) → index_of a v ≡ Some k → get_or g k false ≡ false → IsMarked a before g → is_bad_wall a before v ≡ false
may_mark a before v g k at none marked = or_from (not (is_in a v)) (has_node before v) (ap (λ o. not (is_some o)) at) (sym (marked.right v k at) ∙ none)

not_true : (b : Bool) → not b ≡ true → b ≡ false
not_true true e = absurd (false≢true e)
not_true false e = refl

pub marked_now : (a : Extent) (v : Node) (g h : List Bool) (k : ℕ) (r : Bool) → index_of a v ≡ Some k → k < length g → r ≡ not (get_or g k false) → h ≡ set g k true → r ≡ true → (before : List Node) → IsMarked a before g → (is_bad_wall a before v ≡ false) × IsMarked a (before ++ v ∷ []) h
marked_now a v g h k r at lt told e t before marked = (
  may_mark a before v g k at (not_true (get_or g k false) (sym told ∙ t)) marked,
  mark_more a before v g h k at lt e marked,
)

-- at the start nothing is marked
pub none_marked : (a : Extent) (n : ℕ) (g : List Bool) → n ≡ a.w * a.h → g ≡ replicate n false → IsMarked a [] g
none_marked a n g size e =
    let P : List Bool → Type 0 = λ x. IsMarked a [] x in
    subst P (sym e) (record { size = length-replicate n false ∙ size; right = λ v k at. one_everywhere n k false })

-- one wall more may stand
pub walls_more : (a : Extent) (walls : List Node) (i : ℕ) (d : Node) → i < length walls → AreWalls a walls i → is_bad_wall a (take i walls) (get_or walls i d) ≡ false → AreWalls a walls (i + 1)
walls_more a walls i d lt are fine j v below at = elim (cases_eq j i) [
  | inl same ↦
      let one : get_or walls i d ≡ v = same_Some (get_or walls i d) v (sym (slice_get-get_or walls i d lt) ∙ ap (slice_get walls) (sym same) ∙ at) in
      ap (λ n. is_bad_wall a (take n walls) v) same ∙ ap (is_bad_wall a (take i walls)) (sym one) ∙ fine
  | inr ne ↦ are j v (omega arith) at
]

pub first_bad : (a : Extent) (walls : List Node) (i : ℕ) (d : Node) → i < length walls → AreWalls a walls i → is_bad_wall a (take i walls) (get_or walls i d) ≡ true → IsFirstBadWall a walls i
first_bad a walls i d lt are bad = record { wall = get_or walls i d; there = slice_get-get_or walls i d lt; bad = bad; before = are }

-- what a grid of walls makes
pub gridded_is : (a : Extent) (maxes : List ℕ) (walls : List Node) (g : List Bool) → IsMarked a walls g → gridded_frame a maxes g ≡ walled_frame a walls maxes
gridded_is a maxes walls g marked = ap (λ (ns : List ℕ). let c : Config = record (walled_frame a [] maxes) { walls = ns } in c) (marked_places a walls g marked)

pub frame_kept : (a : Extent) (maxes : List ℕ) (walls : List Node) (g : List Bool) → IsArea a → length maxes ≡ 8 → IsMarked a walls g → IsFrame (gridded_frame a maxes g) g
frame_kept a maxes walls g area eight marked = record {
  valid = subst IsValid (sym (gridded_is a maxes walls g marked)) (walled_frame_is_valid a walls maxes area eight);
  size = marked.size;
}

-- walls of one area are the same exactly where their grids are
pub walls_same : (a b : Extent) (m n : List ℕ) (g h : List Bool) (r : Bool)
    → IsFrame (gridded_frame a m g) g → IsFrame (gridded_frame b n h) h → a ≡ b → Decides r (g ≡ h)
    → Decides r ((a ≡ b) × (true_places g ≡ true_places h))
walls_same a b m n g h r one two areas decides = (
  λ t. (areas, ap true_places (decides.0 t)),
  λ e. decides.1 (true_places_same g h (one.size ∙ ap (λ (x : Extent). x.w * x.h) areas ∙ sym two.size) e.1),
)

-- a node is a wall exactly where it is one of these and lies in the area
pub wall_told : (a : Extent) (vs : List Node) (v : Node) → (has_node vs v && is_in a v) ≡ has_number (node_numbers a vs) (index_of a v)
wall_told a vs v = elim (cases_Bool (is_in a v)) [
  | inl t ↦ rw t (and_true (has_node vs v)) ∙ sym (nodes_are_their_numbers a vs v t)
  | inr f ↦ rw f (and_false (has_node vs v)) ∙ sym (ap (has_number (node_numbers a vs)) (none_if (index_of a v) f))
]
  where
    and_true : (b : Bool) → (b && true) ≡ b
    and_true true = refl
    and_true false = refl

    and_false : (b : Bool) → (b && false) ≡ false
    and_false true = refl
    and_false false = refl
