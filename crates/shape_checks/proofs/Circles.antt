-- Arcs of the true places of a circle.
use Rattle.std.proofs.Common.{◌≡◌, ◌⊎◌, ◌<◌, ◌≤◌, ℕ, zero, suc, ◌+◌, ◌-◌, ◌%◌, List, length, Bool, true, false, inl, inr, ap, sym, ◌∙◌, refl, arith, add-zero, zero-add}
use Rattle.std.specs.Prelude.{IsTrue}
use Rattle.std.proofs.lemmas.Bool.{cases_lt, cases_eq, cases_Bool, both_ways}
use Rattle.std.proofs.Math.Nat.{add-mod_left, mod-eq_of_lt}
use Rattle.shape_checks.specs.Hexagons.{IsArc}
use Rattle.shape_checks.specs.Arcs.{circle_entry, IsStart}
use Rattle.shape_checks.specs.Laws.{TwoRunsAreNoArc}

-- once round leads back to the same place
pub once_round : (m x y : ℕ) → x ≡ m + y → x % m ≡ y % m
once_round m x y e = ap (λ k. k % m) e ∙ add-mod_left m y

-- the place t places on from one, going round
abbrev pub place_on : List Bool → ℕ → ℕ → Bool
place_on circle from t = circle_entry circle ((from + t) % length circle)

-- what is known after j places: all are true as long as it is not over; else the first n are, and the others are not
pub record IsRun (circle : List Bool) (from : ℕ) (over : Bool) (j : ℕ) : Type 0 where
  pub runs : over ≡ false → (t : ℕ) → t < j → IsTrue (place_on circle from t)
  pub ended : over ≡ true → (n : ℕ) × (n < j) × ((t : ℕ) → t < n → IsTrue (place_on circle from t)) × ((t : ℕ) → n ≤ t → t < j → place_on circle from t ≡ false)

pub run_true : (circle : List Bool) (from : ℕ) (over : Bool) (j : ℕ) → IsRun circle from over j → over ≡ false → IsTrue (place_on circle from j) → IsRun circle from over (j + 1)
run_true circle from over j r going here = record {
  runs = λ e t lt. elim (cases_eq t j) [
    | inl same ↦ ap (place_on circle from) same ∙ here
    | inr ne ↦ r.runs e t (omega arith)
  ];
  ended = λ e. absurd (both_ways over going e);
}

pub run_false : (circle : List Bool) (from : ℕ) (over : Bool) (j : ℕ) → IsRun circle from over j → place_on circle from j ≡ false → IsRun circle from true (j + 1)
run_false circle from over j r here = record {
  runs = λ e. absurd (both_ways true e refl);
  ended = λ _. elim (cases_Bool over) [
    | inl o ↦
        let (n, lt, front, rest) = r.ended o in (
          n,
          omega arith,
          front,
          λ t low high. elim (cases_eq t j) [
            | inl same ↦ ap (place_on circle from) same ∙ here
            | inr ne ↦ rest t low (omega arith)
          ],
        )
    | inr going ↦ (j, omega arith, r.runs going, λ t low high. let same : t ≡ j = omega arith in ap (place_on circle from) same ∙ here)
  ];
}

pub run_is_arc : (circle : List Bool) (from : ℕ) (over : Bool) (j : ℕ) → IsRun circle from over j → from < length circle → length circle ≤ j → IsArc (circle_entry circle) (length circle)
run_is_arc circle from over j r below all = elim (cases_Bool over) [
  | inl o ↦
      let (n, lt, front, rest) = r.ended o in (
        from,
        n,
        below,
        λ t lt. (
          λ here. elim (cases_lt t n) [ inl before ↦ before | inr after ↦ absurd (both_ways _ (rest t after (omega arith)) here) ],
          front t,
        ),
      )
  | inr going ↦ (from, length circle, below, λ t lt. (λ _. lt, λ _. r.runs going t (omega arith)))
]

-- a place by how far it is on from the place where an arc begins
from_start : (m i from s t : ℕ) → i < m → from < m → s < m → (s + i ≡ from) ⊎ (s + i ≡ from + m) → t < m → (q : ℕ) × (q < m) × ((i + q) % m ≡ (from + t) % m) × ((q ≡ s + t) ⊎ (q + m ≡ s + t))
from_start m i from s t il fl sl by tl = elim (cases_lt (s + t) m) [
  | inl lt ↦ (
    s + t,
    lt,
    elim by [
      | inl e ↦ ap (λ k. k % m) (omega arith)
      | inr e ↦ once_round m _ _ (omega arith)
    ],
    inl refl,
  )
  | inr ge ↦ (
    s + t - m,
    omega arith,
    elim by [
      | inl e ↦ sym (once_round m (from + t) (i + (s + t - m)) (omega arith))
      | inr e ↦ ap (λ k. k % m) (omega arith)
    ],
    inr (omega arith),
  )
]

-- how far one place is on from another
apart : (m i from : ℕ) → i < m → from < m → (s : ℕ) × (s < m) × ((s + i ≡ from) ⊎ (s + i ≡ from + m))
apart m i from il fl = elim (cases_lt from i) [
  | inl lt ↦ (from + m - i, omega arith, inr (omega arith))
  | inr ge ↦ (from - i, omega arith, inl (omega arith))
]

-- four places in this order, of which the first and the third are true and the others not, are none of an arc's
no_two_runs : (p : ℕ → Bool) (m from a b z : ℕ) → from < m → 0 < a → a < b → b < z → z < m → IsTrue (p ((from + 0) % m)) → p ((from + a) % m) ≡ false → IsTrue (p ((from + b) % m)) → p ((from + z) % m) ≡ false → IsArc p m → ⊥
no_two_runs p m from a b z fl some ab bz zm p0 pa pb pz (i, n, il, each) =
    let (s, sl, by) = apart m i from il fl in
    let (q0, l0, e0, k0) = from_start m i from s 0 il fl sl by (omega arith) in
    let (qa, la, ea, ka) = from_start m i from s a il fl sl by (omega arith) in
    let (qb, lb, eb, kb) = from_start m i from s b il fl sl by (omega arith) in
    let (qz, lz, ez, kz) = from_start m i from s z il fl sl by (omega arith) in
    let h0 : q0 < n = (each q0 l0).0 (ap p e0 ∙ p0) in
    let hb : qb < n = (each qb lb).0 (ap p eb ∙ pb) in
    let ha : n ≤ qa = elim (cases_lt qa n) [ inl lt ↦ absurd (both_ways _ pa (ap p (sym ea) ∙ (each qa la).1 lt)) | inr ge ↦ ge ] in
    let hz : n ≤ qz = elim (cases_lt qz n) [ inl lt ↦ absurd (both_ways _ pz (ap p (sym ez) ∙ (each qz lz).1 lt)) | inr ge ↦ ge ] in
    cyclic m s a b z q0 qa qb qz n some ab bz zm sl l0 la lb lz k0 ka kb kz h0 ha hb hz
  where
    cyclic : (m s a b z q0 qa qb qz n : ℕ) → 0 < a → a < b → b < z → z < m → s < m → q0 < m → qa < m → qb < m → qz < m
        → (q0 ≡ s + 0) ⊎ (q0 + m ≡ s + 0) → (qa ≡ s + a) ⊎ (qa + m ≡ s + a) → (qb ≡ s + b) ⊎ (qb + m ≡ s + b) → (qz ≡ s + z) ⊎ (qz + m ≡ s + z)
        → q0 < n → n ≤ qa → qb < n → n ≤ qz → ⊥
    cyclic m s a b z q0 qa qb qz n some ab bz zm sl l0 la lb lz k0 (inl ka) (inl kb) kz h0 ha hb hz = omega arith
    cyclic m s a b z q0 qa qb qz n some ab bz zm sl l0 la lb lz k0 (inr ka) kb kz h0 ha hb hz = elim k0 [ inl e ↦ omega arith | inr e ↦ omega arith ]
    cyclic m s a b z q0 qa qb qz n some ab bz zm sl l0 la lb lz k0 (inl ka) (inr kb) kz h0 ha hb hz = elim k0 [ inl e ↦ elim kz [ inl f ↦ omega arith | inr f ↦ omega arith ] | inr e ↦ omega arith ]

pub two_runs_are_no_arc : TwoRunsAreNoArc
two_runs_are_no_arc p m i j k l ij jk kl lm pi pj pk pl arc =
    let at : (x : ℕ) → i ≤ x → x < m → (i + (x - i)) % m ≡ x = λ x low high. ap (λ y. y % m) (omega arith) ∙ mod-eq_of_lt high in
    let first : (i + 0) % m ≡ i = ap (λ y. y % m) (add-zero i) ∙ mod-eq_of_lt (omega arith) in
    no_two_runs p m i (j - i) (k - i) (l - i) (omega arith) (omega arith) (omega arith) (omega arith) (omega arith)
    (ap p first ∙ pi) (ap p (at j (omega arith) (omega arith)) ∙ pj) (ap p (at k (omega arith) (omega arith)) ∙ pk) (ap p (at l (omega arith) lm) ∙ pl) arc

-- the last place round is the one before
last_is_before : (circle : List Bool) (from : ℕ) → 0 < length circle → place_on circle from (length circle - 1) ≡ circle_entry circle ((from + length circle - 1) % length circle)
last_is_before circle from some = ap (λ k. circle_entry circle (k % length circle)) (omega arith)

pub no_arc : (circle : List Bool) (from : ℕ) (over : Bool) (j : ℕ) → IsStart circle from → IsRun circle from over j → over ≡ true → j < length circle → IsTrue (place_on circle from j) → IsArc (circle_entry circle) (length circle) → ⊥
no_arc circle from over j start r o lt here =
    let (n, nl, front, rest) = r.ended o in
    let below = start.below in
    let first : IsTrue (place_on circle from 0) = ap (circle_entry circle) (ap (λ k. k % length circle) (add-zero from) ∙ mod-eq_of_lt below) ∙ start.here in
    let last : place_on circle from (length circle - 1) ≡ false = last_is_before circle from (omega arith) ∙ start.before in
    let some : 0 < n = elim (cases_eq n 0) [ inl e ↦ absurd (both_ways _ (ap (place_on circle from) (sym e) ∙ rest n (omega arith) nl) first) | inr ne ↦ omega arith ] in
    let inside : j < length circle - 1 = elim (cases_eq j (length circle - 1)) [ inl e ↦ absurd (both_ways _ last (ap (place_on circle from) (sym e) ∙ here)) | inr ne ↦ omega arith ] in
    no_two_runs (circle_entry circle) (length circle) from n j (length circle - 1) below some nl inside (omega arith) first (rest n (omega arith) nl) here last

-- a circle in which no arc starts is all true or all false
module _ (circle : List Bool) (none : (i : ℕ) → IsStart circle i → ⊥) where
  back : (i : ℕ) → i < length circle → IsTrue (circle_entry circle i) → IsTrue (circle_entry circle ((i + length circle - 1) % length circle))
  back i lt here = elim (cases_Bool (circle_entry circle ((i + length circle - 1) % length circle))) [
    | inl t ↦ t
    | inr f ↦ absurd (none i (record { below = lt; here = here; before = f }))
  ]

  down : (d i k : ℕ) → i + d ≡ k → k < length circle → IsTrue (circle_entry circle k) → IsTrue (circle_entry circle i)
  down zero i k e lt here = let same : i ≡ k = omega arith in ap (circle_entry circle) same ∙ here
  down (suc d) i k e lt here =
      let next = down d (i + 1) k (omega arith) lt here in
      let at : (i + 1 + length circle - 1) % length circle ≡ i = once_round (length circle) _ i (omega arith) ∙ mod-eq_of_lt (omega arith) in
      ap (circle_entry circle) (sym at) ∙ back (i + 1) (omega arith) next

  pub no_start_is_arc : 0 < length circle → IsArc (circle_entry circle) (length circle)
  no_start_is_arc some = elim (cases_Bool (circle_entry circle 0)) [
    | inl t ↦
        let last : (0 + length circle - 1) % length circle ≡ length circle - 1 = ap (λ k. k % length circle) (omega arith) ∙ mod-eq_of_lt (omega arith) in
        let top = ap (circle_entry circle) (sym last) ∙ back 0 some t in (
          0,
          length circle,
          some,
          λ j lt. (
            λ _. lt,
            λ _. let at : (0 + j) % length circle ≡ j = ap (λ k. k % length circle) (zero-add j) ∙ mod-eq_of_lt lt in
                ap (circle_entry circle) at ∙ down (length circle - 1 - j) j (length circle - 1) (omega arith) (omega arith) top,
          ),
        )
    | inr f ↦ (
      0,
      0,
      some,
      λ j lt. (
        λ here. let at : (0 + j) % length circle ≡ j = ap (λ k. k % length circle) (zero-add j) ∙ mod-eq_of_lt lt in
            absurd (both_ways _ f (down j 0 j (zero-add j) lt (ap (circle_entry circle) (sym at) ∙ here))),
        λ less. absurd (omega arith),
      ),
    )
  ]
