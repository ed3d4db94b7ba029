-- Walls as nodes and as numbers of nodes.
use Rattle.std.proofs.Common.{◌≡◌, ◌⊎◌, ◌<◌, ◌*◌, ℕ, List, [], ◌∷◌, length, get_or, Bool, true, false, nat_eq, ap, sym, ◌∙◌, refl, subst, inl, inr, arith, Option, Some, None}
use Rattle.std.specs.Prelude.{nat_lt, slice_index_or, if◌then◌else◌}
use Rattle.std.specs.List.{All, filter_map, fold, list_any, range_with_len}
use Rattle.std.specs.List.Sorted.{IsStrictlyIncreasing}
use Rattle.std.proofs.lemmas.Bool.{cases_Bool, cases_lt, cases_eq, both_ways, false≢true, eqb-true, eq-eqb, ltb-true, lt-ltb}
use Rattle.std.proofs.lemmas.List.{map-id, ext_get_or, get_or_past}
use Rattle.std.proofs.lemmas.List.Kept.{AllPairs-from_increasing}
use Rattle.tri_lattice.specs.declared.node.Node.{Node}
use Rattle.tri_lattice.specs.Extent.{Extent, index_of, node_at}
use Rattle.tri_lattice.specs.Lattice.{node_eq}
use Rattle.tri_lattice.proofs.Boxes.{index_below, index_once, index_of_node_at}
use Rattle.tri_lattice.proofs.Nodes.{node_eq-true, node_eq_same}
use Rattle.amoebot_state.specs.Walls.{has_node, has_number, with_number, node_numbers, true_places}
use Rattle.amoebot_state.specs.Storage.{IsMarked}
use Rattle.amoebot_state.specs.Laws.{NodesAreTheirNumbers}
use Rattle.amoebot_state.proofs.Differences.{Has-range_with_len}
use Rattle.amoebot_state.proofs.Members.{Has, here, later, has_cases, not_in_none, filter_has, Has-filter, filter_map_has, Has-filter_map, All-from_Has}
use Rattle.amoebot_state.proofs.Options.{there_is}
use Rattle.amoebot_state.proofs.RisingLists.{Rising, none, more, Rising-range, Rising-filter, Rising-same, Rising-from_increasing, increasing-from_Rising, range_below}

-- two tests that pass together are one
pub same_truth : (a b : Bool) → (a ≡ true → b ≡ true) → (b ≡ true → a ≡ true) → a ≡ b
same_truth true b to from = sym (to refl)
same_truth false true to from = from refl
same_truth false false to from = refl

-- an element that passes
pub any_has : {A : Type 0} (p : A → Bool) (xs : List A) → list_any p xs ≡ true → (x : A) × Has x xs × (p x ≡ true)
any_has p [] = λ e. absurd (false≢true e)
any_has {A} p (x ∷ xs) = elim (cases_Bool (p x)) as (λ _. list_any p (x ∷ xs) ≡ true → (y : A) × Has y (x ∷ xs) × (p y ≡ true)) [
  | inl t ↦ λ _. (x, here, t)
  | inr f ↦ rw f (λ e. let rest = any_has p xs e in (rest.0, later rest.1, rest.2))
]

pub has_any : {A : Type 0} (p : A → Bool) {x : A} {xs : List A} → Has x xs → p x ≡ true → list_any p xs ≡ true
has_any p here t = rw t refl
has_any {A} p {x} (later {y = y} {xs = xs} has) t = elim (cases_Bool (p y)) [
  | inl u ↦ rw u refl
  | inr f ↦ rw f (has_any p has t)
]

pub has_node-Has : (vs : List Node) (v : Node) → has_node vs v ≡ true → Has v vs
has_node-Has vs v e = let at = any_has (λ u. node_eq u v) vs e in subst (λ u. Has u vs) (node_eq-true at.0 v at.2) at.1

pub Has-has_node : (vs : List Node) (v : Node) → Has v vs → has_node vs v ≡ true
Has-has_node vs v has = has_any (λ u. node_eq u v) has (node_eq_same v)

pub has_number-Has : (ns : List ℕ) (k : ℕ) → has_number ns (Some k) ≡ true → Has k ns
has_number-Has ns k e = let at = any_has (λ n. nat_eq n k) ns e in subst (λ n. Has n ns) (eqb-true at.0 k at.2) at.1

pub Has-has_number : (ns : List ℕ) (k : ℕ) → Has k ns → has_number ns (Some k) ≡ true
Has-has_number ns k has = has_any (λ n. nat_eq n k) has (eq-eqb k k refl)

-- a number that is one of a list is a number
pub number_is : (ns : List ℕ) (o : Option ℕ) → has_number ns o ≡ true → (k : ℕ) × (o ≡ Some k) × Has k ns
number_is ns None e = absurd (false≢true e)
number_is ns (Some k) e = (k, refl, has_number-Has ns k e)

-- ---- rising numbers

pub rising_numbers : (ns : List ℕ) → IsStrictlyIncreasing ns → Rising (λ k. k) ns
rising_numbers ns rising = Rising-from_increasing (λ k. k) ns (subst (λ ms. Rattle.std.specs.List.AllPairs (λ m n. m < n) ms) (sym (map-id ns)) (AllPairs-from_increasing ns rising))

pub numbers_rising : (ns : List ℕ) → Rising (λ k. k) ns → IsStrictlyIncreasing ns
numbers_rising ns rising = subst IsStrictlyIncreasing (map-id ns) (increasing-from_Rising (λ k. k) ns rising)

with_number_has : (ns : List ℕ) (k j : ℕ) → Has j (with_number ns k) → (j ≡ k) ⊎ Has j ns
with_number_has [] k j = λ has. elim (has_cases has) [ inl e ↦ inl e | inr h ↦ absurd (not_in_none h) ]
with_number_has (n ∷ ns) k j = elim (cases_Bool (nat_lt k n)) as (λ _. Has j (with_number (n ∷ ns) k) → (j ≡ k) ⊎ Has j (n ∷ ns)) [
  | inl t ↦ rw t (λ has. elim (has_cases has) [ inl e ↦ inl e | inr h ↦ inr h ])
  | inr f ↦ rw f (elim (cases_Bool (nat_eq k n)) as (λ _. Has j (if nat_eq k n then n ∷ ns else n ∷ with_number ns k) → (j ≡ k) ⊎ Has j (n ∷ ns)) [
    | inl t ↦ rw t (λ has. inr has)
    | inr g ↦ rw g (λ has. elim (has_cases has) [
      | inl e ↦ inr (subst (λ m. Has m (n ∷ ns)) (sym e) here)
      | inr h ↦ elim (with_number_has ns k j h) [ inl e ↦ inl e | inr old ↦ inr (later old) ]
    ])
  ])
]

new_number : (ns : List ℕ) (k : ℕ) → Has k (with_number ns k)
new_number [] k = here
new_number (n ∷ ns) k = elim (cases_Bool (nat_lt k n)) [
  | inl t ↦ rw t here
  | inr f ↦ rw f (elim (cases_Bool (nat_eq k n)) [
    | inl t ↦ rw t (subst (λ m. Has m (n ∷ ns)) (sym (eqb-true k n t)) here)
    | inr g ↦ rw g (later (new_number ns k))
  ])
]

old_number : (ns : List ℕ) (k j : ℕ) → Has j ns → Has j (with_number ns k)
old_number [] k j has = absurd (not_in_none has)
old_number (n ∷ ns) k j has = elim (cases_Bool (nat_lt k n)) [
  | inl t ↦ rw t (later has)
  | inr f ↦ rw f (elim (cases_Bool (nat_eq k n)) [
    | inl t ↦ rw t has
    | inr g ↦ rw g (elim (has_cases has) [
      | inl e ↦ subst (λ m. Has m (n ∷ with_number ns k)) (sym e) here
      | inr h ↦ later (old_number ns k j h)
    ])
  ])
]

Rising-with_number : (ns : List ℕ) (k : ℕ) → Rising (λ n. n) ns → Rising (λ n. n) (with_number ns k)
Rising-with_number [] k rising = more (λ y has. absurd (not_in_none has)) none
Rising-with_number (n ∷ ns) k (more below rest) = elim (cases_Bool (nat_lt k n)) [
  | inl t ↦ rw t (more {x = k} {xs = n ∷ ns} (λ y has. let lt = ltb-true k n t in elim (has_cases has) [ inl e ↦ omega arith | inr h ↦ omega (arith, below y h) ]) (more below rest))
  | inr f ↦ rw f (elim (cases_Bool (nat_eq k n)) [
    | inl t ↦ rw t (more below rest)
    | inr g ↦ rw g (more {x = n} {xs = with_number ns k}
        (λ y has. elim (with_number_has ns k y has) [
          | inl e ↦ elim (cases_lt n k) [
            | inl lt ↦ omega arith
            | inr ge ↦ elim (cases_eq k n) [
              | inl same ↦ absurd (both_ways _ g (eq-eqb k n same))
              | inr ne ↦ absurd (both_ways _ f (lt-ltb k n (omega arith)))
            ]
          ]
          | inr h ↦ below y h
        ])
        (Rising-with_number ns k rest))
  ])
]

folded_has : (ks ns : List ℕ) (j : ℕ) → Has j (fold with_number ns ks) → Has j ns ⊎ Has j ks
folded_has [] ns j has = inl has
folded_has (k ∷ ks) ns j has = elim (folded_has ks (with_number ns k) j has) [
  | inl h ↦ elim (with_number_has ns k j h) [
    | inl e ↦ inr (subst (λ m. Has m (k ∷ ks)) (sym e) here)
    | inr old ↦ inl old
  ]
  | inr h ↦ inr (later h)
]

folded_old : (ks ns : List ℕ) (j : ℕ) → Has j ns → Has j (fold with_number ns ks)
folded_old [] ns j has = has
folded_old (k ∷ ks) ns j has = folded_old ks (with_number ns k) j (old_number ns k j has)

folded_new : (ks ns : List ℕ) (j : ℕ) → Has j ks → Has j (fold with_number ns ks)
folded_new [] ns j has = absurd (not_in_none has)
folded_new (k ∷ ks) ns j has = elim (has_cases has) [
  | inl e ↦ folded_old ks (with_number ns k) j (subst (λ m. Has m (with_number ns k)) (sym e) (new_number ns k))
  | inr h ↦ folded_new ks (with_number ns k) j h
]

folded_rises : (ks ns : List ℕ) → Rising (λ n. n) ns → Rising (λ n. n) (fold with_number ns ks)
folded_rises [] ns rising = rising
folded_rises (k ∷ ks) ns rising = folded_rises ks (with_number ns k) (Rising-with_number ns k rising)

-- ---- the numbers of nodes

pub node_numbers_has : (a : Extent) (vs : List Node) (k : ℕ) → Has k (node_numbers a vs) → (v : Node) × Has v vs × (index_of a v ≡ Some k)
node_numbers_has a vs k has = elim (folded_has (filter_map (index_of a) vs) [] k has) [
  | inl h ↦ absurd (not_in_none h)
  | inr h ↦ filter_map_has (index_of a) vs h
]

pub Has-node_numbers : (a : Extent) (vs : List Node) (v : Node) (k : ℕ) → Has v vs → index_of a v ≡ Some k → Has k (node_numbers a vs)
Has-node_numbers a vs v k has at = folded_new (filter_map (index_of a) vs) [] k (Has-filter_map (index_of a) vs has at)

pub node_numbers_rise : (a : Extent) (vs : List Node) → Rising (λ n. n) (node_numbers a vs)
node_numbers_rise a vs = folded_rises (filter_map (index_of a) vs) [] none

pub node_numbers_below : (a : Extent) (vs : List Node) → All (λ k. k < a.w * a.h) (node_numbers a vs)
node_numbers_below a vs = All-from_Has (λ k. k < a.w * a.h) (node_numbers a vs) (λ k has. let at = node_numbers_has a vs k has in index_below a at.0 k at.2)

-- a node is one of these exactly where its number is one of theirs
pub numbered : (a : Extent) (vs : List Node) (v : Node) (k : ℕ) → index_of a v ≡ Some k → has_number (node_numbers a vs) (Some k) ≡ has_node vs v
numbered a vs v k at = same_truth _ _
    (λ t.
    let (u, has, is) = node_numbers_has a vs k (has_number-Has (node_numbers a vs) k t) in
    Has-has_node vs v (subst (λ w. Has w vs) (index_once a u v k is at) has))
    (λ t. Has-has_number (node_numbers a vs) k (Has-node_numbers a vs v k (has_node-Has vs v t) at))

pub nodes_are_their_numbers : NodesAreTheirNumbers
nodes_are_their_numbers a vs v inside =
    let (k, at) = there_is (index_of a v) inside in
    ap (has_number (node_numbers a vs)) at ∙ numbered a vs v k at

-- ---- grids

pub true_places_has : (bs : List Bool) (k : ℕ) → Has k (true_places bs) → (k < length bs) × (get_or bs k false ≡ true)
true_places_has bs k has =
    let at = filter_has (λ k. slice_index_or bs k false) (range_with_len 0 (length bs)) has in
    let within = range_below 0 (length bs) k at.0 in
    (omega (arith, within.1), at.1)

pub Has-true_places : (bs : List Bool) (k : ℕ) → k < length bs → get_or bs k false ≡ true → Has k (true_places bs)
Has-true_places bs k lt t = Has-filter (λ k. slice_index_or bs k false) (range_with_len 0 (length bs)) (Has-range_with_len 0 (length bs) k (omega arith) (omega arith)) t

pub true_places_rise : (bs : List Bool) → Rising (λ n. n) (true_places bs)
true_places_rise bs = Rising-filter (λ n. n) (λ k. slice_index_or bs k false) (Rising-range 0 (length bs))

pub true_places_below : (bs : List Bool) → All (λ k. k < length bs) (true_places bs)
true_places_below bs = All-from_Has (λ k. k < length bs) (true_places bs) (λ k has. (true_places_has bs k has).0)

-- past the end of a grid nothing is true
true_below : (bs : List Bool) (k : ℕ) → get_or bs k false ≡ true → k < length bs
true_below bs k t = elim (cases_lt k (length bs)) [
  | inl lt ↦ lt
  | inr ge ↦ absurd (false≢true (sym (get_or_past bs k false (omega arith)) ∙ t))
]

pub true_place : (bs : List Bool) (k : ℕ) → has_number (true_places bs) (Some k) ≡ get_or bs k false
true_place bs k = same_truth _ _
    (λ t. (true_places_has bs k (has_number-Has (true_places bs) k t)).1)
    (λ t. Has-has_number (true_places bs) k (Has-true_places bs k (true_below bs k t) t))

-- two grids of one length that are true at the same places are equal
pub true_places_same : (bs cs : List Bool) → length bs ≡ length cs → true_places bs ≡ true_places cs → bs ≡ cs
true_places_same bs cs size same = ext_get_or false bs cs size (λ k below. sym (true_place bs k) ∙ ap (λ ns. has_number ns (Some k)) same ∙ true_place cs k)

-- the places of a grid that marks nodes are the numbers of these
pub marked_places : (a : Extent) (vs : List Node) (g : List Bool) → IsMarked a vs g → true_places g ≡ node_numbers a vs
marked_places a vs g marked = Rising-same (λ n. n) (true_places_rise g) (node_numbers_rise a vs)
    (λ k has.
    let (lt, t) = true_places_has g k has in
    let size = marked.size in
    let at = index_of_node_at a k (omega arith) in
    Has-node_numbers a vs (node_at a k) k (has_node-Has vs (node_at a k) (sym (marked.right (node_at a k) k at) ∙ t)) at)
    (λ k has.
    let (v, among, at) = node_numbers_has a vs k has in
    let below = index_below a v k at in
    let size = marked.size in
    Has-true_places g k (omega arith) (marked.right v k at ∙ Has-has_node vs v among))
