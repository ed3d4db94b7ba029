-- The places of a ring are the nodes at its distance.
use Rattle.std.proofs.Common.{◌≡◌, ◌⊎◌, ◌<◌, ◌≤◌, ◌+◌, ◌-◌, ◌*◌, ◌/◌, ◌%◌, ℕ, ◌+ℤ◌, ◌-ℤ◌, ◌≤ℤ◌, ◌<ℤ◌, sym, ◌∙◌, ap, subst, inl, inr, arith}
use Rattle.std.specs.Prelude.{unsigned_abs}
use Rattle.std.proofs.lemmas.Int.{ints, by_lt_z}
use Rattle.std.proofs.lemmas.Nat.{div-mul-add, mod-mul-add, mul-le, mul-add-lt, mod_below, div-add-mod'}
use Rattle.std.proofs.lemmas.Bool.{cases_lt}
use Rattle.std.proofs.Math.Nat.{mod-eq_of_lt}
use Rattle.tri_lattice.specs.declared.node.Node.{Node}
use Rattle.tri_lattice.specs.Lattice.{distance, turned, Adjacent}
use Rattle.tri_lattice.proofs.Nodes.{same_node, each_direction}
use Rattle.shape_checks.specs.Hexagons.{steps_away, ring_node}
use Rattle.shape_checks.specs.Laws.{RingIsItsDistance, NextPlacesMeet}
use Rattle.shape_checks.proofs.Circles.{once_round}

-- the node that stands j places behind the corner of side s
abbrev on_side : Node → ℕ → ℕ → ℕ → Node
on_side c r s j = steps_away (steps_away c s r) (turned s 2) j

ring_at : (c : Node) (r s j : ℕ) → j < r → ring_node c r (s * r + j) ≡ on_side c r s j
ring_at c r s j lt =
    let side : (s * r + j) / r ≡ s = div-mul-add s r j lt in
    let behind : (s * r + j) % r ≡ j = mod-mul-add s r j lt in
    ap (λ (p : ℕ × ℕ). on_side c r p.0 p.1) (λ i. (side i, behind i))

-- each node of a side is at the distance
side_is_far : (c : Node) (r j : ℕ) → j < r → (s : ℕ) → s < 6 → distance c (on_side c r s j) ≡ r
side_is_far c r j lt = each_direction (λ s. distance c (on_side c r s j) ≡ r)
    (omega (arith, ints)) (omega (arith, ints)) (omega (arith, ints)) (omega (arith, ints)) (omega (arith, ints)) (omega (arith, ints))

side_below : (k r : ℕ) → 1 ≤ r → k < 6 * r → k / r < 6
side_below k r some lt = elim (cases_lt (k / r) 6) [
  | inl low ↦ low
  | inr high ↦ (
      let most : 6 * r ≤ (k / r) * r = mul-le 6 r (k / r) r high (omega arith) in
      let all = div-add-mod' k r in
      absurd (omega arith))
]

pub far_of_place : (c v : Node) (r k : ℕ) → 1 ≤ r → k < 6 * r → v ≡ ring_node c r k → distance c v ≡ r
far_of_place c v r k some lt e = ap (distance c) e ∙ side_is_far c r (k % r) (mod_below k r (omega arith)) (k / r) (side_below k r some lt)

-- and each node at the distance is one of a side
place_at : (c v : Node) (r s j : ℕ) → s < 6 → j < r → v ≡ on_side c r s j → (k : ℕ) × (k < 6 * r) × (v ≡ ring_node c r k)
place_at c v r s j low lt e = let below = mul-add-lt s r j 6 low lt in (s * r + j, omega (arith, below), e ∙ sym (ring_at c r s j lt))

module _ (c v : Node) (r : ℕ) (some : 1 ≤ r) (far : distance c v ≡ r) where
  x : ℕ
  x = unsigned_abs (v.x -ℤ c.x)

  y : ℕ
  y = unsigned_abs (v.y -ℤ c.y)

  Places : Type 0
  Places = (k : ℕ) × (k < 6 * r) × (v ≡ ring_node c r k)

  side_0 : c.x <ℤ v.x → c.y ≤ℤ v.y → Places
  unfolding y Places
  side_0 right up = place_at c v r 0 y (omega arith) (omega (arith, ints)) (same_node v (on_side c r 0 y) (omega (arith, ints)) (omega (arith, ints)))

  side_1 : v.x ≤ℤ c.x → c.y <ℤ v.y → (c.x +ℤ c.y) <ℤ (v.x +ℤ v.y) → Places
  unfolding x Places
  side_1 left up above = place_at c v r 1 x (omega arith) (omega (arith, ints)) (same_node v (on_side c r 1 x) (omega (arith, ints)) (omega (arith, ints)))

  side_2 : v.x ≤ℤ c.x → c.y <ℤ v.y → (v.x +ℤ v.y) ≤ℤ (c.x +ℤ c.y) → Places
  unfolding y Places
  side_2 left up below = place_at c v r 2 (r - y) (omega arith) (omega (arith, ints)) (same_node v (on_side c r 2 (r - y)) (omega (arith, ints)) (omega (arith, ints)))

  side_3 : v.x <ℤ c.x → v.y ≤ℤ c.y → Places
  unfolding y Places
  side_3 left down = place_at c v r 3 y (omega arith) (omega (arith, ints)) (same_node v (on_side c r 3 y) (omega (arith, ints)) (omega (arith, ints)))

  side_4 : c.x ≤ℤ v.x → v.y ≤ℤ c.y → (v.x +ℤ v.y) <ℤ (c.x +ℤ c.y) → Places
  unfolding x Places
  side_4 right down below = place_at c v r 4 x (omega arith) (omega (arith, ints)) (same_node v (on_side c r 4 x) (omega (arith, ints)) (omega (arith, ints)))

  side_5 : c.x <ℤ v.x → v.y <ℤ c.y → (c.x +ℤ c.y) ≤ℤ (v.x +ℤ v.y) → Places
  unfolding y Places
  side_5 right down above = place_at c v r 5 (r - y) (omega arith) (omega (arith, ints)) (same_node v (on_side c r 5 (r - y)) (omega (arith, ints)) (omega (arith, ints)))

  -- to the right, straight up or down, to the left
  to_the_right : c.x <ℤ v.x → Places
  to_the_right right = by_lt_z v.y c.y
      (λ down. by_lt_z (v.x +ℤ v.y) (c.x +ℤ c.y) (λ below. side_4 (omega (arith, ints)) (omega (arith, ints)) below) (λ above. side_5 right down above))
      (λ up. side_0 right up)

  elsewhere : v.x ≤ℤ c.x → Places
  elsewhere left = by_lt_z c.y v.y
      (λ up. by_lt_z (c.x +ℤ c.y) (v.x +ℤ v.y) (λ above. side_1 left up above) (λ below. side_2 left up below))
      (λ down. by_lt_z v.x c.x (λ is_left. side_3 is_left down) (λ straight. side_4 straight down (omega (arith, ints))))

  place_of : (k : ℕ) × (k < 6 * r) × (v ≡ ring_node c r k)
  unfolding Places
  place_of = by_lt_z c.x v.x to_the_right elsewhere

pub ring_is_its_distance : RingIsItsDistance
ring_is_its_distance c v r some = (place_of c v r some, λ p. far_of_place c v r p.0 some p.1 p.2)

-- the next place lies a step on along the side
along_side : (c : Node) (r j s : ℕ) → s < 6 → Adjacent (on_side c r s j) (on_side c r s (j + 1))
along_side c r j = each_direction (λ s. Adjacent (on_side c r s j) (on_side c r s (j + 1)))
    (2, omega arith, same_node _ _ (omega (arith, ints)) (omega (arith, ints)))
    (3, omega arith, same_node _ _ (omega (arith, ints)) (omega (arith, ints)))
    (4, omega arith, same_node _ _ (omega (arith, ints)) (omega (arith, ints)))
    (5, omega arith, same_node _ _ (omega (arith, ints)) (omega (arith, ints)))
    (0, omega arith, same_node _ _ (omega (arith, ints)) (omega (arith, ints)))
    (1, omega arith, same_node _ _ (omega (arith, ints)) (omega (arith, ints)))

-- and behind the last one of a side the next corner
round_corner : (c : Node) (r j s : ℕ) → j + 1 ≡ r → s < 6 → Adjacent (on_side c r s j) (on_side c r (turned s 1) 0)
round_corner c r j s last = each_direction (λ s. Adjacent (on_side c r s j) (on_side c r (turned s 1) 0))
    (2, omega arith, same_node _ _ (omega (arith, ints)) (omega (arith, ints)))
    (3, omega arith, same_node _ _ (omega (arith, ints)) (omega (arith, ints)))
    (4, omega arith, same_node _ _ (omega (arith, ints)) (omega (arith, ints)))
    (5, omega arith, same_node _ _ (omega (arith, ints)) (omega (arith, ints)))
    (0, omega arith, same_node _ _ (omega (arith, ints)) (omega (arith, ints)))
    (1, omega arith, same_node _ _ (omega (arith, ints)) (omega (arith, ints)))
    s

-- which place comes next
next_at : (c : Node) (r s j : ℕ) → 1 ≤ r → s < 6 → j < r → (ring_node c r ((s * r + j + 1) % (6 * r)) ≡ on_side c r s (j + 1)) × (j + 1 < r) ⊎ (ring_node c r ((s * r + j + 1) % (6 * r)) ≡ on_side c r (turned s 1) 0) × (j + 1 ≡ r)
next_at c r s j some low lt = elim (cases_lt (j + 1) r) [
  | inl before ↦
      let below = mul-add-lt s r (j + 1) 6 low before in
      let at : (s * r + j + 1) % (6 * r) ≡ s * r + (j + 1) = mod-eq_of_lt (omega (arith, below)) ∙ omega arith in
      inl (ap (ring_node c r) at ∙ ring_at c r s (j + 1) before, before)
  | inr after ↦
      let last : j + 1 ≡ r = omega arith in
      let over : s * r + j + 1 ≡ (s + 1) * r + 0 = omega arith in
      elim (cases_lt (s + 1) 6) [
        | inl more ↦
            let below = mul-add-lt (s + 1) r 0 6 more (omega arith) in
            let at : (s * r + j + 1) % (6 * r) ≡ (s + 1) * r + 0 = ap (λ k. k % (6 * r)) over ∙ mod-eq_of_lt (omega (arith, below)) in
            let side : s + 1 ≡ turned s 1 = sym (mod-eq_of_lt more) in
            inr (ap (ring_node c r) at ∙ ring_at c r (s + 1) 0 (omega arith) ∙ ap (λ t. on_side c r t 0) side, last)
        | inr all ↦
            let five : s ≡ 5 = omega arith in
            let whole : s * r + j + 1 ≡ 6 * r + 0 = over ∙ ap (λ t. (t + 1) * r + 0) five in
            let at : (s * r + j + 1) % (6 * r) ≡ 0 * r + 0 = once_round (6 * r) (s * r + j + 1) 0 whole ∙ mod-eq_of_lt (omega arith) ∙ omega arith in
            inr (ap (ring_node c r) at ∙ ring_at c r 0 0 (omega arith) ∙ ap (λ t. on_side c r (turned t 1) 0) (sym five), last)
      ]
]

pub next_places_meet : NextPlacesMeet
next_places_meet c r k some lt =
    let s : ℕ = k / r in
    let j : ℕ = k % r in
    let low = side_below k r some lt in
    let all : (k / r) * r + k % r + 1 ≡ k + 1 = let e = div-add-mod' k r in omega arith in
    let P : Node → Type 0 = λ v. Adjacent (on_side c r s j) v in
    let Q : ℕ → Type 0 = λ i. P (ring_node c r (i % (6 * r))) in
    subst Q all (elim (next_at c r s j some low (mod_below k r (omega arith))) [
      | inl side ↦ subst P (sym side.0) (along_side c r j s low)
      | inr corner ↦ subst P (sym corner.0) (round_corner c r j s corner.1 low)
    ])
