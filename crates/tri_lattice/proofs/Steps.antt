-- A direction is told by its offsets, and adjacency by the ring and by the distance.
use Rattle.std.proofs.Common.{◌≡◌, ◌<◌, ◌≤◌, ℕ, zero, suc, max, ℤ, pos, negsuc, ◌+ℤ◌, ◌-ℤ◌, arith, refl, sym, ◌∙◌, ap, inl, inr, get_or}
use Rattle.std.proofs.lemmas.Bool.{or_cases, false≢true}
use Rattle.std.proofs.lemmas.Int.{ints}
use Rattle.std.proofs.lemmas.List.Folds.{list_any_at}
use Rattle.std.specs.Prelude.{IsTrue, unsigned_abs}
use Rattle.tri_lattice.specs.declared.node.Node.{Node}
use Rattle.tri_lattice.specs.Lattice.{dx, dy, step, ring, Adjacent, node_eq, is_adjacent, distance}
use Rattle.tri_lattice.specs.Laws.{NeighboursAreDistinct, NeighboursAreAtOne, AdjacentTestIsAdjacency}
use Rattle.tri_lattice.proofs.Nodes.{same_node, node_eq-true, eq-node_eq, each_direction, stepped}

-- the direction that has these offsets
abbrev direction : ℤ → ℤ → ℕ
direction (pos zero) (pos n) = 1
direction (pos zero) (negsuc n) = 4
direction (pos (suc m)) (pos n) = 0
direction (pos (suc m)) (negsuc n) = 5
direction (negsuc m) (pos zero) = 3
direction (negsuc m) (pos (suc n)) = 2
direction (negsuc m) (negsuc n) = 3

direction_of : (d : ℕ) → d < 6 → direction (dx d) (dy d) ≡ d
direction_of = each_direction (λ d. direction (dx d) (dy d) ≡ d) refl refl refl refl refl refl

same_offset : (x a b : ℤ) → x +ℤ a ≡ x +ℤ b → a ≡ b
same_offset x a b e = omega (arith, ints)

pub neighbours_are_distinct : NeighboursAreDistinct
neighbours_are_distinct v d e ld le same =
    let x : dx d ≡ dx e = same_offset v.x _ _ (ap (λ (n : Node). n.x) same) in
    let y : dy d ≡ dy e = same_offset v.y _ _ (ap (λ (n : Node). n.y) same) in
    sym (direction_of d ld) ∙ ap (λ z. direction z (dy d)) x ∙ ap (direction (dx e)) y ∙ direction_of e le

-- the ring has the neighbour in direction d at place d
pub ring_at : (v u : Node) (d : ℕ) → d < 6 → get_or (ring v) d u ≡ step v d
ring_at v u = each_direction (λ d. get_or (ring v) d u ≡ step v d) refl refl refl refl refl refl

pub is_adjacent-true : (a b : Node) → IsTrue (is_adjacent a b) → Adjacent a b
is_adjacent-true a b t = elim (or_cases _ _ t) [
  | inl e ↦ (0, omega arith, sym (node_eq-true _ _ e))
  | inr t ↦ elim (or_cases _ _ t) [
    | inl e ↦ (1, omega arith, sym (node_eq-true _ _ e))
    | inr t ↦ elim (or_cases _ _ t) [
      | inl e ↦ (2, omega arith, sym (node_eq-true _ _ e))
      | inr t ↦ elim (or_cases _ _ t) [
        | inl e ↦ (3, omega arith, sym (node_eq-true _ _ e))
        | inr t ↦ elim (or_cases _ _ t) [
          | inl e ↦ (4, omega arith, sym (node_eq-true _ _ e))
          | inr t ↦ elim (or_cases _ _ t) [
            | inl e ↦ (5, omega arith, sym (node_eq-true _ _ e))
            | inr t ↦ absurd (false≢true t)
          ]
        ]
      ]
    ]
  ]
]

pub Adjacent-is_adjacent : (a b : Node) → Adjacent a b → IsTrue (is_adjacent a b)
Adjacent-is_adjacent a b (d, l, e) =
    list_any_at (λ v. node_eq v b) (ring a) d a l (eq-node_eq _ _ (ring_at a a d l ∙ sym e))

pub adjacent_test_is_adjacency : AdjacentTestIsAdjacency
adjacent_test_is_adjacency a b = (is_adjacent-true a b, Adjacent-is_adjacent a b)

-- how far two offsets lead
abbrev size : ℤ → ℤ → ℕ
size x y = max (max (unsigned_abs x) (unsigned_abs y)) (unsigned_abs (x +ℤ y))

size_of : (d : ℕ) → d < 6 → size (dx d) (dy d) ≡ 1
size_of = each_direction (λ d. size (dx d) (dy d) ≡ 1) refl refl refl refl refl refl

-- one step leads to distance 1
pub distance_adjacent : (a b : Node) → Adjacent a b → distance a b ≡ 1
distance_adjacent a b (d, l, e) =
    ap (distance a) e ∙ ap (λ x. size x ((a.y +ℤ dy d) -ℤ a.y)) (stepped a.x (dx d)) ∙ ap (size (dx d)) (stepped a.y (dy d)) ∙ size_of d l

-- the offsets of a direction
abbrev Offsets : ℤ → ℤ → Type 0
Offsets x y = (d : ℕ) × (d < 6) × (x ≡ dx d) × (y ≡ dy d)

parts : (p q r : ℕ) → max (max p q) r ≡ 1 → (p ≤ 1) × (q ≤ 1) × (r ≤ 1)
parts p q r e = (omega arith, omega arith, omega arith)

-- offsets that lead as far as 1 are a direction's
one_away : (x y : ℤ) → size x y ≡ 1 → Offsets x y
one_away (pos zero) (pos zero) e = absurd (omega arith)
one_away (pos zero) (pos (suc zero)) e = (1, omega arith, refl, refl)
one_away (pos zero) (negsuc zero) e = (4, omega arith, refl, refl)
one_away (pos (suc zero)) (pos zero) e = (0, omega arith, refl, refl)
one_away (pos (suc zero)) (negsuc zero) e = (5, omega arith, refl, refl)
one_away (pos (suc zero)) (pos (suc zero)) e = absurd (omega arith)
one_away (negsuc zero) (pos zero) e = (3, omega arith, refl, refl)
one_away (negsuc zero) (pos (suc zero)) e = (2, omega arith, refl, refl)
one_away (negsuc zero) (negsuc zero) e = absurd (omega arith)
one_away (pos (suc (suc m))) y e = absurd (let l = (parts _ _ _ e).0 in omega arith)
one_away (negsuc (suc m)) y e = absurd (let l = (parts _ _ _ e).0 in omega arith)
one_away (pos zero) (pos (suc (suc n))) e = absurd (let l = (parts _ _ _ e).1 in omega arith)
one_away (pos zero) (negsuc (suc n)) e = absurd (let l = (parts _ _ _ e).1 in omega arith)
one_away (pos (suc zero)) (pos (suc (suc n))) e = absurd (let l = (parts _ _ _ e).1 in omega arith)
one_away (pos (suc zero)) (negsuc (suc n)) e = absurd (let l = (parts _ _ _ e).1 in omega arith)
one_away (negsuc zero) (pos (suc (suc n))) e = absurd (let l = (parts _ _ _ e).1 in omega arith)
one_away (negsuc zero) (negsuc (suc n)) e = absurd (let l = (parts _ _ _ e).1 in omega arith)

gone : (x z w : ℤ) → z -ℤ x ≡ w → z ≡ x +ℤ w
gone x z w e = omega (arith, ints)

pub adjacent_at_one : (a b : Node) → distance a b ≡ 1 → Adjacent a b
adjacent_at_one a b e =
    let (d, l, x, y) = one_away _ _ e in
    (d, l, same_node _ _ (gone a.x b.x (dx d) x) (gone a.y b.y (dy d) y))

pub neighbours_are_at_one : NeighboursAreAtOne
neighbours_are_at_one a b = (distance_adjacent a b, adjacent_at_one a b)
