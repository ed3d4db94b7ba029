-- The nodes with the numbers of walls: they may stand in a shape, and their numbers are those of the walls.
use Rattle.std.proofs.Common.{◌≡◌, ℕ, zero, suc, ◌<◌, ◌≤◌, ◌+◌, ◌*◌, Bool, true, false, List, [], ◌∷◌, ◌++◌, length, take, map, filter, slice_get, Option, Some, refl, sym, ap, subst, ◌∙◌, inl, inr, arith, append_assoc}
use Rattle.std.specs.Prelude.{not, ◌||◌, is_some, nat_lt}
use Rattle.std.specs.List.{All}
use Rattle.std.proofs.lemmas.Bool.{cases_Bool, cases_lt, false≢true, ltb-true, lt-ltb}
use Rattle.std.proofs.lemmas.List.{append-nil}
use Rattle.std.proofs.lemmas.List.Elements.{All-head, All-tail}
use Rattle.std.proofs.lemmas.Nat.{mul-le}
use Rattle.tri_lattice.specs.declared.node.Node.{Node}
use Rattle.tri_lattice.specs.Extent.{Extent, IsArea, is_in, index_of, node_at}
use Rattle.tri_lattice.proofs.Boxes.{index_of_node_at}
use Rattle.amoebot_state.specs.Limits.{most_walls}
use Rattle.amoebot_state.specs.Walls.{has_node, has_number, node_numbers}
use Rattle.amoebot_state.specs.Refusals.{is_bad_wall, AreWalls}
use Rattle.amoebot_state.proofs.Members.{Has, here, later, has_cases, not_in_none, Has-append_left, Has-append_right, Has-append_cases, Has-filter, filter_has, Has-map, map_has}
use Rattle.amoebot_state.proofs.RisingLists.{Rising, none, more, Rising-append, Rising-filter, Rising-same}
use Rattle.amoebot_state.proofs.Walls.{has_node-Has, Has-has_number, node_numbers_has, Has-node_numbers, node_numbers_rise}

-- the first so many walls may stand behind these
abbrev pub AreWallsBehind : Extent → List Node → List Node → ℕ → Type 0
AreWallsBehind a before walls n = (j : ℕ) (v : Node) → j < n → slice_get walls j ≡ Some v → is_bad_wall a (before ++ take j walls) v ≡ false

module _ (a : Extent) where
  abbrev Below : ℕ → Type 0
  Below k = k < a.w * a.h

  pub has_below : (ns : List ℕ) → All Below ns → (k : ℕ) → Has k ns → Below k
  has_below [] all k has = absurd (not_in_none has)
  has_below (n ∷ ns) all k has = elim (has_cases has) [
    | inl e ↦ subst Below (sym e) (All-head Below n ns all)
    | inr h ↦ has_below ns (All-tail Below n ns all) k h
  ]

  -- a number below the size is that of its node alone
  same_number : (m n : ℕ) → Below m → Below n → node_at a m ≡ node_at a n → m ≡ n
  same_number m n low high e =
      let same : Some m ≡ Some n = sym (index_of_node_at a m low) ∙ ap (index_of a) e ∙ index_of_node_at a n high in
      cc

  pub numbers_of_nodes : (ns : List ℕ) → Rising (λ n. n) ns → All Below ns → node_numbers a (map (node_at a) ns) ≡ ns
  numbers_of_nodes ns rising all = Rising-same (λ n. n) (node_numbers_rise a (map (node_at a) ns)) rising
      (λ k has.
      let (v, among, at) = node_numbers_has a (map (node_at a) ns) k has in
      let (m, is, e) = map_has (node_at a) ns among in
      let same : Some m ≡ Some k = sym (index_of_node_at a m (has_below ns all m is)) ∙ ap (index_of a) (sym e) ∙ at in
      let one : m ≡ k = cc in
      subst (λ n. Has n ns) one is)
      (λ k has. Has-node_numbers a (map (node_at a) ns) (node_at a k) k (Has-map (node_at a) has) (index_of_node_at a k (has_below ns all k has)))

  -- none of these nodes has one of the numbers
  abbrev Apart : List Node → List ℕ → Type 0
  Apart before ns = (v : Node) (n : ℕ) → Has v before → Has n ns → node_at a n ≡ v → ⊥

  stands : (before : List Node) (n : ℕ) → Below n → ((v : Node) → Has v before → node_at a n ≡ v → ⊥) → is_bad_wall a before (node_at a n) ≡ false
  stands before n below apart = elim (cases_Bool (has_node before (node_at a n))) [
    | inl t ↦ absurd (apart (node_at a n) (has_node-Has before (node_at a n) t) refl)
    | inr f ↦ rw (f, ap (λ (o : Option ℕ). is_some o) (index_of_node_at a n below)) refl
  ]

  walls_behind : (before : List Node) (ns : List ℕ) → Rising (λ n. n) ns → All Below ns → Apart before ns → AreWallsBehind a before (map (node_at a) ns) (length ns)
  walls_behind before [] rising all apart j v lt at = absurd (omega arith)
  walls_behind before (n ∷ ns) (more low rest) all apart zero v lt at =
      let same : node_at a n ≡ v = cc in
      ap (λ (vs : List Node). is_bad_wall a vs v) (append-nil before) ∙ subst (λ (u : Node). is_bad_wall a before u ≡ false) same (stands before n (All-head Below n ns all) (λ u has e. apart u n has here e))
  walls_behind before (n ∷ ns) (more low rest) all apart (suc j) v lt at =
      let tail = All-tail Below n ns all in
      let further : Apart (before ++ node_at a n ∷ []) ns = λ u m has among e. elim (Has-append_cases before has) [
        | inl old ↦ apart u m old (later among) e
        | inr one ↦ elim (has_cases one) [
          | inl is ↦ (let below = low m among in let same = same_number m n (has_below ns tail m among) (All-head Below n ns all) (e ∙ is) in absurd (omega arith))
          | inr nowhere ↦ absurd (not_in_none nowhere)
        ]
      ] in
      ap (λ (vs : List Node). is_bad_wall a vs v) (sym (append_assoc before (node_at a n ∷ []) (take j (map (node_at a) ns)))) ∙ walls_behind (before ++ node_at a n ∷ []) ns rest tail further j v (omega arith) at

  pub nodes_are_walls : (ns : List ℕ) → Rising (λ n. n) ns → All Below ns → AreWalls a (map (node_at a) ns) (length ns)
  nodes_are_walls ns rising all = walls_behind [] ns rising all (λ v n has among e. not_in_none has)

  -- rising numbers between two bounds are no more than lie between them
  short : (ns : List ℕ) (low : ℕ) → Rising (λ n. n) ns → ((k : ℕ) → Has k ns → low ≤ k) → low ≤ a.w * a.h → All Below ns → low + length ns ≤ a.w * a.h
  short [] low rising least fit all = omega arith
  short (n ∷ ns) low (more above rest) least fit all =
      let one = least n here in
      let below = All-head Below n ns all in
      let others = short ns (suc n) rest (λ k has. let lt = above k has in omega arith) (omega arith) (All-tail Below n ns all) in
      omega arith

  pub few_numbers : IsArea a → (ns : List ℕ) → Rising (λ n. n) ns → All Below ns → length ns ≤ most_walls
  few_numbers area ns rising all =
      let fit = short ns 0 rising (λ k has. omega arith) (omega arith) all in
      let size = mul-le a.w a.h 128 128 area.w_high area.h_high in
      omega arith

-- ---- numbers below a bound

abbrev pub below : ℕ → List ℕ → List ℕ
below bound ns = filter (λ k. nat_lt k bound) ns

rising_below : (bound : ℕ) (ns : List ℕ) → Rising (λ n. n) ns → Rising (λ n. n) (below bound ns)
rising_below bound ns rising = Rising-filter (λ n. n) (λ k. nat_lt k bound) rising

is_below : (bound k : ℕ) (ns : List ℕ) → Has k (below bound ns) → Has k ns × (k < bound)
is_below bound k ns has = let at = filter_has (λ k. nat_lt k bound) ns has in (at.0, ltb-true k bound at.1)

Has-below : (bound k : ℕ) (ns : List ℕ) → Has k ns → k < bound → Has k (below bound ns)
Has-below bound k ns has lt = Has-filter (λ k. nat_lt k bound) ns has (lt-ltb k bound lt)

pub none_below : (ns : List ℕ) → Rising (λ n. n) ns → below 0 ns ≡ []
none_below ns rising = Rising-same (λ n. n) (rising_below 0 ns rising) none (λ k has. absurd (let lt = (is_below 0 k ns has).1 in omega arith)) (λ k has. absurd (not_in_none has))

pub all_below : (bound : ℕ) (ns : List ℕ) → Rising (λ n. n) ns → ((k : ℕ) → Has k ns → k < bound) → below bound ns ≡ ns
all_below bound ns rising all = Rising-same (λ n. n) (rising_below bound ns rising) rising (λ k has. (is_below bound k ns has).0) (λ k has. Has-below bound k ns has (all k has))

-- one of the numbers comes behind those below it
pub next_below : (n : ℕ) (ns : List ℕ) → Rising (λ n. n) ns → Has n ns → below (n + 1) ns ≡ below n ns ++ n ∷ []
next_below n ns rising among = Rising-same (λ n. n) (rising_below (n + 1) ns rising)
    (Rising-append (λ n. n) (rising_below n ns rising) (more (λ y has. absurd (not_in_none has)) none) (λ x y low one. elim (has_cases one) [
      | inl e ↦ (let lt = (is_below n x ns low).1 in subst (λ z. x < z) (sym e) lt)
      | inr nowhere ↦ absurd (not_in_none nowhere)
    ]))
    (λ k has.
    let at = is_below (n + 1) k ns has in
    elim (cases_lt k n) [
      | inl lt ↦ Has-append_left (n ∷ []) (Has-below n k ns at.0 lt)
      | inr ge ↦ (let same : k ≡ n = (let lt = at.1 in omega arith) in Has-append_right (below n ns) (subst (λ m. Has m (n ∷ [])) (sym same) here))
    ])
    (λ k has. elim (Has-append_cases (below n ns) has) [
      | inl low ↦ (let at = is_below n k ns low in let lt = at.1 in Has-below (n + 1) k ns at.0 (omega arith))
      | inr one ↦ elim (has_cases one) [
        | inl e ↦ Has-below (n + 1) k ns (subst (λ m. Has m ns) (sym e) among) (omega arith)
        | inr nowhere ↦ absurd (not_in_none nowhere)
      ]
    ])

-- a number that is none of them changes nothing
pub same_below : (n : ℕ) (ns : List ℕ) → Rising (λ n. n) ns → has_number ns (Some n) ≡ false → below (n + 1) ns ≡ below n ns
same_below n ns rising absent = Rising-same (λ n. n) (rising_below (n + 1) ns rising) (rising_below n ns rising)
    (λ k has.
    let at = is_below (n + 1) k ns has in
    elim (cases_lt k n) [
      | inl lt ↦ Has-below n k ns at.0 lt
      | inr ge ↦ (let same : k ≡ n = (let lt = at.1 in omega arith) in absurd (false≢true (sym absent ∙ Has-has_number ns n (subst (λ m. Has m ns) same at.0))))
    ])
    (λ k has. let at = is_below n k ns has in let lt = at.1 in Has-below (n + 1) k ns at.0 (omega arith))
