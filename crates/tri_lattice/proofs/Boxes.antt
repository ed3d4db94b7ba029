-- Places, numbers and nodes of a box.
use Rattle.std.proofs.Common.{◌≡◌, ℕ, zero, suc, ℤ, ◌<◌, ◌*◌, ◌/◌, ◌%◌, arith, pos, negsuc, ltb, cond, refl, ◌+◌, ap, sym, ◌∙◌}
use Rattle.std.proofs.Math.Nat.{mul_comm, div-lt_iff_lt-mul}
use Rattle.std.specs.declared.option.Option.{Option}
use Rattle.std.specs.declared.option.Option.TheVariants.{Some, None}
use Rattle.std.specs.Option.{option_and_then, option_map}
use Rattle.std.proofs.lemmas.Nat.{mul-add-lt, same_from_place, mod_below, div-add-mod'}
use Rattle.std.proofs.lemmas.Bool.{lt-ltb, le-ltb, ltb-true, false≢true}
use Rattle.std.proofs.lemmas.Option.{cond_some, none-some, same_Some}
use Rattle.tri_lattice.proofs.Nodes.{same_node, stepped}
use Rattle.tri_lattice.specs.declared.node.Node.{Node}
use Rattle.tri_lattice.specs.Extent.{Extent, axis_offset, index_of, is_in, node_at, IsArea}
use Rattle.tri_lattice.specs.Laws.{IsWithin, BoxIsItsBounds, NodesHaveNumbers, NumbersHaveNodes}
use Rattle.tri_lattice.specs.Lattice.{IsNear}
use Rattle.std.specs.Prelude.{IsTrue, is_some, ◌-ℤ◌, ◌≤ℤ◌, ◌<ℤ◌}
use Rattle.std.proofs.lemmas.Int.{ints}

-- what has a place in a side has one below its length
pub place_below : (z : ℤ) (side n : ℕ) → axis_offset z side ≡ Some n → n < side
place_below (pos m) side n e = let t = cond_some (ltb m side) m n e in let l = ltb-true m side t.0 in omega arith
place_below (negsuc m) side n e = absurd (none-some n e)

row_below : (w h k : ℕ) (o p : Option ℕ) → ((i : ℕ) → o ≡ Some i → i < w) → ((j : ℕ) → p ≡ Some j → j < h) → option_and_then (λ i. option_map (λ j. j * w + i) p) o ≡ Some k → k < w * h
row_below w h k None p a b e = absurd (none-some k e)
row_below w h k (Some i) None a b e = absurd (none-some k e)
row_below w h k (Some i) (Some j) a b e = let q = same_Some _ _ e in let l = mul-add-lt j w i h (b j refl) (a i refl) in omega (arith, mul_comm w h)

-- the number of a node is below the size
pub index_below : (a : Extent) (v : Node) (k : ℕ) → index_of a v ≡ Some k → k < a.w * a.h
index_below a v k e = row_below a.w a.h k _ _ (place_below _ a.w) (place_below _ a.h) e

pub place_is : (z : ℤ) (side n : ℕ) → axis_offset z side ≡ Some n → z ≡ pos n
place_is (pos m) side n e = ap pos (cond_some (ltb m side) m n e).1
place_is (negsuc m) side n e = absurd (none-some n e)

places_of : (w : ℕ) (o p : Option ℕ) → IsTrue (is_some (option_and_then (λ i. option_map (λ j. j * w + i) p) o)) → ((i : ℕ) × (o ≡ Some i)) × ((j : ℕ) × (p ≡ Some j))
places_of w None p t = absurd (false≢true t)
places_of w (Some i) None t = absurd (false≢true t)
places_of w (Some i) (Some j) t = ((i, refl), (j, refl))

-- a node of the box lies in it by its coordinates
pub in_places : (a : Extent) (v : Node) → IsTrue (is_in a v) → (i : ℕ) × (j : ℕ) × (v.x -ℤ a.x0 ≡ pos i) × (i < a.w) × (v.y -ℤ a.y0 ≡ pos j) × (j < a.h)
in_places a v t =
    let q = places_of a.w _ _ t in
    (q.0.0, q.1.0, place_is _ a.w _ q.0.1, place_below _ a.w _ q.0.1, place_is _ a.h _ q.1.1, place_below _ a.h _ q.1.1)

-- a node of an area is near enough to step from
pub near_in : (a : Extent) (v : Node) → IsArea a → IsTrue (is_in a v) → IsNear v
near_in a v area t =
    let q = in_places a v t in
    (omega (arith, ints), omega (arith, ints), omega (arith, ints), omega (arith, ints))

pub numbers_of : (w k : ℕ) (o p : Option ℕ) → option_and_then (λ i. option_map (λ j. j * w + i) p) o ≡ Some k → (i : ℕ) × (j : ℕ) × (o ≡ Some i) × (p ≡ Some j) × (j * w + i ≡ k)
numbers_of w k None p e = absurd (none-some k e)
numbers_of w k (Some i) None e = absurd (none-some k e)
numbers_of w k (Some i) (Some j) e = (i, j, refl, refl, same_Some _ _ e)

-- nodes with one number are one
pub index_once : (a : Extent) (u v : Node) (k : ℕ) → index_of a u ≡ Some k → index_of a v ≡ Some k → u ≡ v
index_once a u v k eu ev =
    let p = numbers_of a.w k _ _ eu in
    let q = numbers_of a.w k _ _ ev in
    let one = same_from_place p.1 p.0 q.1 q.0 a.w (place_below _ a.w p.0 p.2) (place_below _ a.w q.0 q.2) (p.4 ∙ sym q.4) in
    let xu = place_is _ a.w p.0 p.2 in
    let xv = place_is _ a.w q.0 q.2 in
    let yu = place_is _ a.h p.1 p.3 in
    let yv = place_is _ a.h q.1 q.3 in
    same_node u v (omega (arith, ints)) (omega (arith, ints))

-- what lies so far into a side has that place
pub place_at : (z : ℤ) (side n : ℕ) → z ≡ pos n → n < side → axis_offset z side ≡ Some n
place_at z side n e l = ap (λ x. axis_offset x side) e ∙ ap (λ b. cond b (Some n) None) (lt-ltb n side l)

-- what lies before the beginning of a side has no place in it, and what lies past its end has none
pub none_before : (z : ℤ) (side : ℕ) → (z <ℤ pos 0) → None ≡ axis_offset z side
none_before (pos n) side l = absurd (omega (arith, ints))
none_before (negsuc n) side l = refl

pub none_past : (z : ℤ) (side : ℕ) → (pos side ≤ℤ z) → None ≡ axis_offset z side
none_past (pos n) side l = sym (ap (λ b. cond b (Some n) None) (le-ltb n side (omega (arith, ints))))
none_past (negsuc n) side l = refl

-- the number from the places
pub index_at : (a : Extent) (v : Node) (i j : ℕ) → v.x -ℤ a.x0 ≡ pos i → i < a.w → v.y -ℤ a.y0 ≡ pos j → j < a.h → index_of a v ≡ Some (j * a.w + i)
index_at a v i j x li y lj =
    ap (λ o. option_and_then (λ m. option_map (λ n. n * a.w + m) (axis_offset (v.y -ℤ a.y0) a.h)) o) (place_at _ a.w i x li)
    ∙ ap (option_map (λ n. n * a.w + i)) (place_at _ a.h j y lj)

above : (a b z : ℤ) → b -ℤ a ≡ z → a ≤ℤ b → (n : ℕ) × (z ≡ pos n)
above a b (pos n) e l = (n, refl)
above a b (negsuc n) e l = absurd (omega (arith, ints))

pub within_in : (a : Extent) (v : Node) → IsWithin a v → IsTrue (is_in a v)
within_in a v w =
    let (i, x) = above a.x0 v.x _ refl w.x_low in
    let (j, y) = above a.y0 v.y _ refl w.y_low in
    let x_high = w.x_high in
    let y_high = w.y_high in
    ap is_some (index_at a v i j x (omega (arith, ints)) y (omega (arith, ints)))

pub in_within : (a : Extent) (v : Node) → IsTrue (is_in a v) → IsWithin a v
in_within a v t =
    let q = in_places a v t in
    record { x_low = omega (arith, ints); x_high = omega (arith, ints); y_low = omega (arith, ints); y_high = omega (arith, ints) }

pub box_is_its_bounds : BoxIsItsBounds
box_is_its_bounds a v = (in_within a v, within_in a v)

has_width : (w h k : ℕ) → k < w * h → 0 < w
has_width zero h k l = absurd (omega arith)
has_width (suc w) h k l = omega arith

-- the row of a number below the size
pub row_of : (w h k : ℕ) → k < w * h → k / w < h
row_of w h k l = (div-lt_iff_lt-mul (has_width w h k l)).1 (omega (arith, mul_comm w h))

-- a number is that of the node with it
pub index_of_node_at : NodesHaveNumbers
index_of_node_at a k l =
    index_at a (node_at a k) (k % a.w) (k / a.w) (stepped _ _) (mod_below k a.w (has_width a.w a.h k l)) (stepped _ _) (row_of a.w a.h k l)
    ∙ ap Some (div-add-mod' k a.w)

-- and a node is the one with its number
pub node_at_index_of : NumbersHaveNodes
node_at_index_of a v k e =
    let below = index_below a v k e in
    (below, index_once a (node_at a k) v k (index_of_node_at a k below) e)
