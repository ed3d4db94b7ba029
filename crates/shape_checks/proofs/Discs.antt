-- Nodes within a distance, row by row.
use Rattle.std.proofs.Common.{◌≡◌, ◌≢◌, ◌⊎◌, ◌<◌, ◌≤◌, ◌+◌, ◌*◌, ◌%◌, ℕ, zero, suc, max, ℤ, pos, negsuc, ◌+ℤ◌, ◌-ℤ◌, ◌≤ℤ◌, ◌<ℤ◌, Bool, List, length, sym, ◌∙◌, ap, subst, inl, inr, arith}
use Rattle.std.specs.Prelude.{IsTrue, Decides, unsigned_abs}
use Rattle.std.specs.Ordering.{int_eq}
use Rattle.std.proofs.lemmas.Bool.{cases_Bool, both_ways}
use Rattle.std.proofs.lemmas.Bool.Decides.{Decides-int_eq}
use Rattle.std.proofs.lemmas.Int.{ints}
use Rattle.std.proofs.lemmas.Nat.{mod_below}
use Rattle.tri_lattice.specs.declared.node.Node.{Node}
use Rattle.tri_lattice.specs.Lattice.{distance}
use Rattle.tri_lattice.proofs.Nodes.{same_node}
use Rattle.shape_checks.specs.Arcs.{circle_entry}
use Rattle.shape_checks.specs.Hexagons.{steps_away, ring_node, IsArc, IsHexagonAt}
use Rattle.shape_checks.specs.Candidates.{IsCentral}

-- two coordinates are equal or not
pub cases_coordinate : (a b : ℤ) → (a ≡ b) ⊎ (a ≢ b)
cases_coordinate a b = elim (cases_Bool (int_eq a b)) [
  | inl t ↦ inl ((Decides-int_eq a b).0 t)
  | inr f ↦ inr (λ e. both_ways _ f ((Decides-int_eq a b).1 e))
]

-- one more node of a row
pub row_more : (S : Node → Bool) (c n : Node) (y : ℤ) (r k : ℕ) → n.x ≡ c.x -ℤ pos r +ℤ pos k → n.y ≡ y → (distance c n < r → IsTrue (S n))
    → ((v : Node) → v.y ≡ y → v.x <ℤ (c.x -ℤ pos r +ℤ pos k) → distance c v < r → IsTrue (S v))
    → (v : Node) → v.y ≡ y → v.x <ℤ (c.x -ℤ pos r +ℤ pos (k + 1)) → distance c v < r → IsTrue (S v)
row_more S c n y r k ex ey here before v vy low near = elim (cases_coordinate v.x n.x) [
  | inl e ↦ let same : n ≡ v = same_node n v (sym e) (ey ∙ sym vy) in subst (λ (u : Node). IsTrue (S u)) same (here (subst (λ (u : Node). distance c u < r) (sym same) near))
  | inr ne ↦ before v vy (omega (arith, ints)) near
]

-- one more row
pub rows_more : (S : Node → Bool) (c : Node) (y : ℤ) (r k : ℕ) → y ≡ c.y -ℤ pos r +ℤ pos k → ((v : Node) → v.y ≡ y → distance c v < r → IsTrue (S v))
    → ((v : Node) → v.y <ℤ (c.y -ℤ pos r +ℤ pos k) → distance c v < r → IsTrue (S v))
    → (v : Node) → v.y <ℤ (c.y -ℤ pos r +ℤ pos (k + 1)) → distance c v < r → IsTrue (S v)
rows_more S c y r k e row before v low near = elim (cases_coordinate v.y y) [
  | inl same ↦ row v same near
  | inr ne ↦ before v (omega (arith, ints)) near
]

-- where a node lies that is so near
pub record IsAround (c v : Node) (r : ℕ) : Type 0 where
  pub left : (c.x -ℤ pos r) ≤ℤ v.x
  pub right : v.x ≤ℤ (c.x +ℤ pos r)
  pub low : (c.y -ℤ pos r) ≤ℤ v.y
  pub high : v.y ≤ℤ (c.y +ℤ pos r)

parts : (p q s r : ℕ) → max (max p q) s ≤ r → (p ≤ r) × (q ≤ r)
parts p q s r l = (omega arith, omega arith)

reach : (a b : ℤ) (r : ℕ) → unsigned_abs (b -ℤ a) ≤ r → ((a -ℤ pos r) ≤ℤ b) × (b ≤ℤ (a +ℤ pos r))
reach a b r l = (omega (arith, ints), omega (arith, ints))

pub around : (c v : Node) (r : ℕ) → distance c v ≤ r → IsAround c v r
around c v r l =
    let p = parts _ _ _ r l in
    let x = reach c.x v.x r p.0 in
    let y = reach c.y v.y r p.1 in
    record { left = x.0; right = x.1; low = y.0; high = y.1 }

-- so many steps do not lead far away
pub moved_near : (v : Node) (d n : ℕ) → n ≤ 130 → IsCentral v → (negsuc 6999 ≤ℤ (steps_away v d n).x) × ((steps_away v d n).x ≤ℤ pos 7000) × (negsuc 6999 ≤ℤ (steps_away v d n).y) × ((steps_away v d n).y ≤ℤ pos 7000)
moved_near v zero n l (a, b, e, f) = (omega (arith, ints), omega (arith, ints), omega (arith, ints), omega (arith, ints))
moved_near v (suc zero) n l (a, b, e, f) = (omega (arith, ints), omega (arith, ints), omega (arith, ints), omega (arith, ints))
moved_near v (suc (suc zero)) n l (a, b, e, f) = (omega (arith, ints), omega (arith, ints), omega (arith, ints), omega (arith, ints))
moved_near v (suc (suc (suc zero))) n l (a, b, e, f) = (omega (arith, ints), omega (arith, ints), omega (arith, ints), omega (arith, ints))
moved_near v (suc (suc (suc (suc zero)))) n l (a, b, e, f) = (omega (arith, ints), omega (arith, ints), omega (arith, ints), omega (arith, ints))
moved_near v (suc (suc (suc (suc (suc d))))) n l (a, b, e, f) = (omega (arith, ints), omega (arith, ints), omega (arith, ints), omega (arith, ints))

-- an arc of the entries of a ring is one of the places on it
arc_on : (p q : ℕ → Bool) (m n : ℕ) → m ≡ n → ((k : ℕ) → k < m → p k ≡ q k) → IsArc p m → IsArc q n
arc_on p q m n e same (i, run, il, each) = (
  i,
  run,
  omega arith,
  λ j lt.
      let below : (i + j) % m < m = mod_below (i + j) m (omega arith) in
      let at : p ((i + j) % m) ≡ q ((i + j) % n) = same _ below ∙ ap (λ k. q ((i + j) % k)) e in
      let both = each j (omega arith) in
      (λ t. both.0 (at ∙ t), λ less. sym at ∙ both.1 less),
)

-- where the rings below are full and nothing is farther out, whether the last ring is an arc tells whether it is a hexagon
pub ring_decides : (S : Node → Bool) (c : Node) (r : ℕ) (ring circle : List Bool) (b : Bool) → 1 ≤ r → ((v : Node) → distance c v < r → IsTrue (S v)) → ((v : Node) → IsTrue (S v) → distance c v ≤ r)
    → length ring ≡ 6 * r → ((k : ℕ) → k < 6 * r → circle_entry ring k ≡ S (ring_node c r k)) → circle ≡ ring → Decides b (IsArc (circle_entry circle) (length circle)) → Decides b (IsHexagonAt S c r)
ring_decides S c r ring circle b some inside outside len places e arc =
    let on : ℕ → Bool = λ k. S (ring_node c r k) in
    let long : length circle ≡ 6 * r = ap length e ∙ len in
    let same = λ (k : ℕ) (lt : k < 6 * r). ap (λ (ks : List Bool). circle_entry ks k) e ∙ places k lt in (
      λ t. record {
        some = some;
        inside = inside;
        outside = outside;
        last = arc_on (circle_entry circle) on (length circle) (6 * r) long (λ k lt. same k (omega arith)) (arc.0 t);
      },
      λ h. arc.1 (arc_on on (circle_entry circle) (6 * r) (length circle) (sym long) (λ k lt. sym (same k lt)) h.last),
    )
