-- When all six neighbours of a node lie in a box.
use Rattle.std.proofs.Common.{◌≡◌, ◌<◌, ◌≤◌, ◌+◌, ◌&&◌, ◌∙◌, ltb, zero, suc, ap, sym, ℕ, ℤ, pos, negsuc, ◌+ℤ◌, ◌-ℤ◌, ◌≤ℤ◌, ◌<ℤ◌, true, false, arith, refl}
use Rattle.std.proofs.lemmas.Bool.{and_parts, and_from, lt-ltb, ltb-true, false≢true}
use Rattle.std.proofs.lemmas.Int.{ints}
use Rattle.std.specs.Prelude.{IsTrue}
use Rattle.tri_lattice.specs.declared.node.Node.{Node}
use Rattle.tri_lattice.specs.Lattice.{step, dx, dy}
use Rattle.tri_lattice.specs.Extent.{Extent, is_in, is_amid, is_amid_side}
use Rattle.tri_lattice.proofs.Nodes.{each_direction}
use Rattle.tri_lattice.proofs.Boxes.{within_in, in_within}

amid_parts : (z : ℤ) (side : ℕ) → is_amid_side z side ≡ true → (n : ℕ) × (z ≡ pos n) × (0 < n) × (n + 1 < side)
amid_parts (pos n) side t = let (low, high) = and_parts _ _ t in (n, refl, ltb-true 0 n low, ltb-true (n + 1) side high)
amid_parts (negsuc n) side t = absurd (false≢true t)

amid_from : (z : ℤ) (side : ℕ) → (pos 1 ≤ℤ z) → ((z +ℤ pos 2) ≤ℤ pos side) → is_amid_side z side ≡ true
amid_from (pos n) side low high = and_from _ _ (lt-ltb 0 n (omega (arith, ints))) (lt-ltb (n + 1) side (omega (arith, ints)))
amid_from (negsuc n) side low high = absurd (omega (arith, ints))

-- what lies before the beginning of a side, or at it, is not amid it
-- what lies behind the beginning is amid it where the end is far enough
pub before_amid : (z : ℤ) (side : ℕ) → (z <ℤ pos 0) → false ≡ is_amid_side z side
before_amid (pos n) side l = absurd (omega (arith, ints))
before_amid (negsuc n) side l = refl

pub at_amid : (z : ℤ) (side n : ℕ) → z ≡ pos n → n ≤ 0 → ltb 0 n ≡ is_amid_side z side
at_amid z side zero e l = ap (λ x. is_amid_side x side) (sym e)
at_amid z side (suc n) e l = absurd (omega arith)

pub behind_amid : (z : ℤ) (side n m : ℕ) → z ≡ pos n → 0 < n → m ≡ side → ltb (n + 1) m ≡ is_amid_side z side
behind_amid z side n m e l s =
    ap (ltb (n + 1)) s ∙ ap (λ b. b && ltb (n + 1) side) (sym (lt-ltb 0 n l)) ∙ ap (λ x. is_amid_side x side) (sym e)

-- from a node at no side each step leads to a node of the box
pub ring_inside : (a : Extent) (v : Node) → is_amid a v ≡ true → (d : ℕ) → d < 6 → IsTrue (is_in a (step v d))
ring_inside a v t =
    let parts = and_parts (is_amid_side (v.x -ℤ a.x0) a.w) (is_amid_side (v.y -ℤ a.y0) a.h) t in
    let (i, x, left, right) = amid_parts (v.x -ℤ a.x0) a.w parts.0 in
    let (j, y, low, high) = amid_parts (v.y -ℤ a.y0) a.h parts.1 in
    let next : (d : ℕ) → (negsuc 0 ≤ℤ dx d) → (dx d ≤ℤ pos 1) → (negsuc 0 ≤ℤ dy d) → (dy d ≤ℤ pos 1) → IsTrue (is_in a (step v d)) = λ d west east south north. within_in a (step v d) (record {
      x_low = omega (arith, ints);
      x_high = omega (arith, ints);
      y_low = omega (arith, ints);
      y_high = omega (arith, ints);
    }) in
    each_direction (λ d. IsTrue (is_in a (step v d)))
    (next 0 (omega arith) (omega arith) (omega arith) (omega arith))
    (next 1 (omega arith) (omega arith) (omega arith) (omega arith))
    (next 2 (omega arith) (omega arith) (omega arith) (omega arith))
    (next 3 (omega arith) (omega arith) (omega arith) (omega arith))
    (next 4 (omega arith) (omega arith) (omega arith) (omega arith))
    (next 5 (omega arith) (omega arith) (omega arith) (omega arith))

-- and from no other node
pub amid_of_ring : (a : Extent) (v : Node) → ((d : ℕ) → d < 6 → IsTrue (is_in a (step v d))) → is_amid a v ≡ true
amid_of_ring a v all =
    let east = in_within a (step v 0) (all 0 (omega arith)) in
    let west = in_within a (step v 3) (all 3 (omega arith)) in
    let north = in_within a (step v 1) (all 1 (omega arith)) in
    let south = in_within a (step v 4) (all 4 (omega arith)) in
    let right = east.x_high in
    let left = west.x_low in
    let high = north.y_high in
    let low = south.y_low in
    and_from _ _ (amid_from (v.x -ℤ a.x0) a.w (omega (arith, ints)) (omega (arith, ints))) (amid_from (v.y -ℤ a.y0) a.h (omega (arith, ints)) (omega (arith, ints)))
