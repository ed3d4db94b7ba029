-- Where the centre of a hexagon lies.
use Rattle.std.proofs.Common.{◌≡◌, ◌⊎◌, ◌<◌, ◌≤◌, ◌+◌, ◌*◌, ◌-◌, ◌/◌, ℕ, zero, suc, ℤ, pos, ◌+ℤ◌, ◌-ℤ◌, ◌≤ℤ◌, Bool, List, [], ◌∷◌, length, sym, subst, inl, inr, arith}
use Rattle.std.specs.Prelude.{IsTrue, unsigned_abs, slice_index_or}
use Rattle.std.proofs.lemmas.Bool.{cases_eq}
use Rattle.std.proofs.lemmas.Int.{ints}
use Rattle.tri_lattice.specs.declared.node.Node.{Node}
use Rattle.tri_lattice.specs.Lattice.{distance}
use Rattle.tri_lattice.specs.Extent.{Extent, IsArea, is_in}
use Rattle.tri_lattice.proofs.Nodes.{same_node}
use Rattle.tri_lattice.proofs.Boxes.{in_places}
use Rattle.amoebot_state.specs.Configs.{Config, IsValid}
use Rattle.amoebot_state.specs.Occupied.{occupied}
use Rattle.shape_checks.specs.declared.hexagon.Extremes.{Extremes}
use Rattle.shape_checks.specs.Hexagons.{IsHexagonAt, AreContracted, IsHexagon}
use Rattle.shape_checks.specs.Candidates.{AreExtremes, AreCentral, IsCentral, candidates, HasCentre}
use Rattle.shape_checks.proofs.Bots.{occupied_in}
use Rattle.shape_checks.proofs.Discs.{around, cases_coordinate}

-- offsets that lead at most so far
close : (c v : Node) (k : ℕ) → unsigned_abs (v.x -ℤ c.x) ≤ k → unsigned_abs (v.y -ℤ c.y) ≤ k → unsigned_abs ((v.x -ℤ c.x) +ℤ (v.y -ℤ c.y)) ≤ k → distance c v ≤ k
close c v k a b e = omega arith

-- the node k to the right of another, or to the left, or below it
pub aside : (c : Node) (x : ℤ) (k : ℕ) → unsigned_abs (x -ℤ c.x) ≤ k → distance c (record { x = x; y = c.y }) ≤ k
aside c x k l = close c (record { x = x; y = c.y }) k l (omega (arith, ints)) (omega (arith, ints))

below : (c : Node) (y : ℤ) (k : ℕ) → unsigned_abs (y -ℤ c.y) ≤ k → distance c (record { x = c.x; y = y }) ≤ k
below c y k l = close c (record { x = c.x; y = y }) k (omega (arith, ints)) l (omega (arith, ints))

-- how the centre lies to the extremes
pub record IsBetween (e : Extremes) (c : Node) (r : ℕ) : Type 0 where
  pub left_most : c.x ≤ℤ (e.left.x +ℤ pos r)
  pub left_least : (e.left.x +ℤ pos r) ≤ℤ (c.x +ℤ pos 1)
  pub low_most : c.y ≤ℤ (e.low.y +ℤ pos r)
  pub low_least : (e.low.y +ℤ pos r) ≤ℤ (c.y +ℤ pos 1)
  pub right_most : e.right.x ≤ℤ (c.x +ℤ pos r)
  pub right_least : (c.x +ℤ pos r) ≤ℤ (e.right.x +ℤ pos 1)

pub between : (S : Node → Bool) (e : Extremes) (c : Node) (r : ℕ) → AreExtremes S e → IsHexagonAt S c r → IsBetween e c r
between S e c r ends h =
    let some = h.some in
    let l = around c e.left r (h.outside e.left ends.left_in) in
    let a = around c e.right r (h.outside e.right ends.right_in) in
    let b = around c e.low r (h.outside e.low ends.low_in) in
    let west = aside c (c.x -ℤ pos (r - 1)) (r - 1) (omega (arith, ints)) in
    let east = aside c (c.x +ℤ pos (r - 1)) (r - 1) (omega (arith, ints)) in
    let south = below c (c.y -ℤ pos (r - 1)) (r - 1) (omega (arith, ints)) in
    let w = ends.left _ (h.inside (record { x = c.x -ℤ pos (r - 1); y = c.y }) (omega arith)) in
    let o = ends.right _ (h.inside (record { x = c.x +ℤ pos (r - 1); y = c.y }) (omega arith)) in
    let s = ends.low _ (h.inside (record { x = c.x; y = c.y -ℤ pos (r - 1) }) (omega arith)) in
    let ll = l.left in
    let ar = a.right in
    let bl = b.low in
    record {
      left_most = omega (arith, ints);
      left_least = omega (arith, ints);
      low_most = omega (arith, ints);
      low_least = omega (arith, ints);
      right_most = omega (arith, ints);
      right_least = omega (arith, ints);
    }

-- so it is one of the four candidates
pub centre_found : (S : Node → Bool) (e : Extremes) (c : Node) (r : ℕ) → IsBetween e c r → IsHexagonAt S c r → HasCentre S e r
centre_found S e c r b h =
    let lm = b.left_most in
    let ll = b.left_least in
    let dm = b.low_most in
    let dl = b.low_least in
    let at = λ (k : ℕ) (l : k < 4) (same : slice_index_or (candidates e r) k e.left ≡ c). subst (λ (v : Node). IsHexagonAt S v r) (sym same) h in
    elim (cases_coordinate c.x (e.left.x +ℤ pos r)) [
      | inl x ↦ elim (cases_coordinate c.y (e.low.y +ℤ pos r)) [
        | inl y ↦ (0, omega arith, at 0 (omega arith) (same_node _ c (sym x) (sym y)))
        | inr y ↦ (2, omega arith, at 2 (omega arith) (same_node _ c (sym x) (omega (arith, ints))))
      ]
      | inr x ↦ elim (cases_coordinate c.y (e.low.y +ℤ pos r)) [
        | inl y ↦ (1, omega arith, at 1 (omega arith) (same_node _ c (omega (arith, ints)) (sym y)))
        | inr y ↦ (3, omega arith, at 3 (omega arith) (same_node _ c (omega (arith, ints)) (omega (arith, ints))))
      ]
    ]

-- and its radius is half the width, or one more
pub radius_is : (e : Extremes) (c : Node) (r wide : ℕ) → IsBetween e c r → e.right.x -ℤ e.left.x ≡ pos wide → 1 ≤ r → (r ≡ wide / 2) ⊎ (r ≡ wide / 2 + 1)
radius_is e c r wide b is some =
    let lm = b.left_most in
    let ll = b.left_least in
    let rm = b.right_most in
    let rl = b.right_least in
    let low : wide ≤ 2 * r = omega (arith, ints) in
    let high : 2 * r ≤ wide + 2 = omega (arith, ints) in
    halves r wide low high
  where
    halves : (r wide : ℕ) → wide ≤ 2 * r → 2 * r ≤ wide + 2 → (r ≡ wide / 2) ⊎ (r ≡ wide / 2 + 1)
    halves r wide low high = elim (cases_eq r (wide / 2)) [ inl e ↦ inl e | inr ne ↦ inr (omega arith) ]

-- extremes of a world lie within the bounds of areas
pub extremes_central : (w : Config) → IsValid w → (e : Extremes) → AreExtremes (occupied w) e → AreCentral e
extremes_central w valid e ends =
    let area = valid.area in
    let few = area.w_high in
    let p = in_places w.area e.left (occupied_in w valid e.left ends.left_in) in
    let q = in_places w.area e.right (occupied_in w valid e.right ends.right_in) in
    let s = in_places w.area e.low (occupied_in w valid e.low ends.low_in) in
    let order = ends.left e.right ends.right_in in
    record { left_low = omega (arith, ints); left_high = omega (arith, ints); low_low = omega (arith, ints); low_high = omega (arith, ints); in_order = order; wide = omega (arith, ints) }

-- the candidates are no farther out than the radius
pub candidates_central : (e : Extremes) (r k : ℕ) (d : Node) → AreCentral e → r ≤ 130 → k < 4 → IsCentral (slice_index_or (candidates e r) k d)
candidates_central e r zero d c l lt = let a = c.left_low in let b = c.left_high in let f = c.low_low in let g = c.low_high in (omega (arith, ints), omega (arith, ints), omega (arith, ints), omega (arith, ints))
candidates_central e r (suc zero) d c l lt = let a = c.left_low in let b = c.left_high in let f = c.low_low in let g = c.low_high in (omega (arith, ints), omega (arith, ints), omega (arith, ints), omega (arith, ints))
candidates_central e r (suc (suc zero)) d c l lt = let a = c.left_low in let b = c.left_high in let f = c.low_low in let g = c.low_high in (omega (arith, ints), omega (arith, ints), omega (arith, ints), omega (arith, ints))
candidates_central e r (suc (suc (suc zero))) d c l lt = let a = c.left_low in let b = c.left_high in let f = c.low_low in let g = c.low_high in (omega (arith, ints), omega (arith, ints), omega (arith, ints), omega (arith, ints))
candidates_central e r (suc (suc (suc (suc k)))) d c l lt = absurd (omega arith)

-- a node of an area is near enough
pub central_in : (a : Extent) (v : Node) → IsArea a → IsTrue (is_in a v) → IsCentral v
central_in a v area inside =
    let p = in_places a v inside in
    let xl = area.x_low in
    let xh = area.x_high in
    let yl = area.y_low in
    let yh = area.y_high in
    let wh = area.w_high in
    let hh = area.h_high in
    (omega (arith, ints), omega (arith, ints), omega (arith, ints), omega (arith, ints))

-- a hexagon that is wider than an area has no world
pub radius_low : (w : Config) → IsValid w → (c : Node) (r : ℕ) → IsHexagonAt (occupied w) c r → r ≤ 64
radius_low w valid c r h =
    let some = h.some in
    let west : Node = record { x = c.x -ℤ pos (r - 1); y = c.y } in
    let east : Node = record { x = c.x +ℤ pos (r - 1); y = c.y } in
    let near : (distance c west ≤ r - 1) × (distance c east ≤ r - 1) = (aside c west.x (r - 1) (omega (arith, ints)), aside c east.x (r - 1) (omega (arith, ints))) in
    let p = in_places w.area west (occupied_in w valid west (h.inside west (omega arith))) in
    let q = in_places w.area east (occupied_in w valid east (h.inside east (omega arith))) in
    let wide = valid.area.w_high in
    omega (arith, ints)

pub four_nodes : {a b c d e f g h : Node} → a ≡ e → b ≡ f → c ≡ g → d ≡ h → ◌≡◌ {A = List Node} (a ∷ b ∷ c ∷ d ∷ []) (e ∷ f ∷ g ∷ h ∷ [])
four_nodes p q r s = cc

-- a hexagon of a world has its centre among the candidates of one of the two radii
pub hexagon_found : (w : Config) (e : Extremes) (wide : ℕ) → AreExtremes (occupied w) e → e.right.x -ℤ e.left.x ≡ pos wide → IsHexagon w → ((0 < wide / 2) × HasCentre (occupied w) e (wide / 2)) ⊎ HasCentre (occupied w) e (wide / 2 + 1)
hexagon_found w e wide ends width h =
    let some = h.shape.some in
    let b = between (occupied w) e h.centre h.radius ends h.shape in
    let found = centre_found (occupied w) e h.centre h.radius b h.shape in
    elim (radius_is e h.centre h.radius wide b width some) [
      | inl r ↦ inl (omega arith, subst (HasCentre (occupied w) e) r found)
      | inr r ↦ inr (subst (HasCentre (occupied w) e) r found)
    ]

-- a centre that is found makes a hexagon of contracted amoebots
pub hexagon_made : (w : Config) (e : Extremes) (r : ℕ) → 0 < length w.bots → AreContracted w → HasCentre (occupied w) e r → IsHexagon w
hexagon_made w e r some contracted (k, lt, shape) = record { some = some; contracted = contracted; centre = slice_index_or (candidates e r) k e.left; radius = r; shape = shape }
