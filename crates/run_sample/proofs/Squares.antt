-- The square and what is near it.
use Rattle.std.proofs.Common.{◌≡◌, ◌≢◌, ◌<◌, ◌≤◌, ◌-◌, ◌/◌, ◌%◌, ℕ, suc, pos, negsuc, ◌+ℤ◌, ◌≤ℤ◌, Bool, ◌&&◌, ◌||◌, cond, eqb, ltb, ap, refl, inl, inr, arith}
use Rattle.std.proofs.lemmas.Bool.{and_parts, or_cases, eqb-true, ltb-true}
use Rattle.std.proofs.lemmas.Int.{ints}
use Rattle.std.proofs.lemmas.Nat.{mod_below}
use Rattle.tri_lattice.specs.declared.node.Node.{Node}
use Rattle.tri_lattice.specs.Lattice.{step, dx, dy, Adjacent, is_adjacent}
use Rattle.tri_lattice.proofs.EachBelow.{each_below_at}
use Rattle.tri_lattice.proofs.Nodes.{each_direction}
use Rattle.tri_lattice.proofs.Steps.{is_adjacent-true}
use Rattle.run_sample.specs.Sample.{square_node, IsInside}

-- k or less away from the square, in either coordinate
pub record IsWithin (k : ℕ) (v : Node) : Type 0 where
  pub x_low : pos 59 ≤ℤ (v.x +ℤ pos k)
  pub x_high : v.x ≤ℤ (pos 68 +ℤ pos k)
  pub y_low : pos 59 ≤ℤ (v.y +ℤ pos k)
  pub y_high : v.y ≤ℤ (pos 68 +ℤ pos k)

pub wider : (k m : ℕ) (v : Node) → k ≤ m → IsWithin k v → IsWithin m v
wider k m v le w =
    let a = w.x_low in
    let b = w.x_high in
    let e = w.y_low in
    let f = w.y_high in
    record { x_low = omega (arith, ints); x_high = omega (arith, ints); y_low = omega (arith, ints); y_high = omega (arith, ints) }

pub within_inside : (k : ℕ) (v : Node) → k ≤ 50 → IsWithin k v → IsInside v
within_inside k v le w =
    let a = w.x_low in
    let b = w.x_high in
    let e = w.y_low in
    let f = w.y_high in
    record { x_low = omega (arith, ints); x_high = omega (arith, ints); y_low = omega (arith, ints); y_high = omega (arith, ints) }

near_x : (d : ℕ) → d < 6 → (negsuc 0 ≤ℤ dx d) × (dx d ≤ℤ pos 1)
near_x = each_direction (λ d. (negsuc 0 ≤ℤ dx d) × (dx d ≤ℤ pos 1))
    (omega (arith, ints), omega (arith, ints)) (omega (arith, ints), omega (arith, ints)) (omega (arith, ints), omega (arith, ints))
    (omega (arith, ints), omega (arith, ints)) (omega (arith, ints), omega (arith, ints)) (omega (arith, ints), omega (arith, ints))

near_y : (d : ℕ) → d < 6 → (negsuc 0 ≤ℤ dy d) × (dy d ≤ℤ pos 1)
near_y = each_direction (λ d. (negsuc 0 ≤ℤ dy d) × (dy d ≤ℤ pos 1))
    (omega (arith, ints), omega (arith, ints)) (omega (arith, ints), omega (arith, ints)) (omega (arith, ints), omega (arith, ints))
    (omega (arith, ints), omega (arith, ints)) (omega (arith, ints), omega (arith, ints)) (omega (arith, ints), omega (arith, ints))

-- a step leads one farther away at most
pub step_within : (k : ℕ) (v : Node) (d : ℕ) → d < 6 → IsWithin k v → IsWithin (suc k) (step v d)
step_within k v d lt w =
    let a = w.x_low in
    let b = w.x_high in
    let e = w.y_low in
    let f = w.y_high in
    let x = near_x d lt in
    let y = near_y d lt in
    record { x_low = omega (arith, ints); x_high = omega (arith, ints); y_low = omega (arith, ints); y_high = omega (arith, ints) }

-- the square is ten rows high
row_below : (n : ℕ) → n < 100 → n / 10 < 10
row_below n lt = omega arith

pub square_within : (n : ℕ) → n < 100 → IsWithin 0 (square_node n)
square_within n lt =
    let column = mod_below n 10 (omega arith) in
    let row = row_below n lt in
    record { x_low = omega (arith, ints); x_high = omega (arith, ints); y_low = omega (arith, ints); y_high = omega (arith, ints) }

-- the node tells its place in the square
pub square_once : (m n : ℕ) → square_node m ≡ square_node n → m ≡ n
square_once m n e =
    let column = ap (λ (v : Node). v.x) e in
    let row = ap (λ (v : Node). v.y) e in
    omega (arith, ints)

-- an earlier node of the square: below the first of a row, else to the left
before : ℕ → ℕ
before n = cond (eqb (n % 10) 0) (n - 10) (n - 1)

is_after : ℕ → Bool
is_after n = eqb n 0 || (ltb (before n) n && is_adjacent (square_node (before n)) (square_node n))

-- each node of the square but the first is adjacent to an earlier one
pub square_beside : (n : ℕ) → n < 100 → n ≢ 0 → (i : ℕ) × (i < n) × Adjacent (square_node i) (square_node n)
unfolding before is_after
square_beside n lt some = elim (or_cases (eqb n 0) (ltb (before n) n && is_adjacent (square_node (before n)) (square_node n)) (each_below_at 100 is_after refl n lt)) [
  | inl e ↦ absurd (some (eqb-true n 0 e))
  | inr t ↦ (let both = and_parts (ltb (before n) n) (is_adjacent (square_node (before n)) (square_node n)) t in (before n, ltb-true (before n) n both.0, is_adjacent-true (square_node (before n)) (square_node n) both.1))
]
