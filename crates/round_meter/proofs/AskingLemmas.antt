-- Whom to ask again: where a patch leaves the cells of an amoebot's zone as they were, the amoebot is shown the same; and each amoebot
-- with a changed cell in its zone is on or round the cell's nodes.
use Rattle.std.proofs.Common.{◌≡◌, ◌≢◌, ◌∙◌, ◌<◌, ◌++◌, ℕ, List, [], ◌∷◌, length, map, filter, get_or, true, inl, inr, ap, sym, subst, refl, arith, Option, Some, None}
use Rattle.std.specs.Prelude.{IsSome, unwrap_or, nat_eq}
use Rattle.std.specs.List.{All, Contains, flat_map}
use Rattle.std.proofs.lemmas.Bool.{false≢true, cases_Bool, or_cases, or_left, or_right, eqb-true}
use Rattle.std.proofs.lemmas.Cmp.{nat_eq_equiv}
use Rattle.std.proofs.Math.Seq.{take-length}
use Rattle.tri_lattice.specs.declared.node.Node.{Node}
use Rattle.tri_lattice.specs.Lattice.{Adjacent, ring, step, node_eq}
use Rattle.tri_lattice.specs.Extent.{Extent, is_in}
use Rattle.tri_lattice.proofs.Boxes.{near_in}
use Rattle.tri_lattice.proofs.Nodes.{Adjacent-sym, each_direction, node_eq-true, node_eq_same}
use Rattle.amoebot_state.specs.declared.bot.Bot.{Bot}
use Rattle.amoebot_state.specs.declared.bot.End.{End}
use Rattle.amoebot_state.specs.declared.bot.End.TheVariants.{Head, Tail}
use Rattle.amoebot_state.specs.declared.cell.CellName.{CellName}
use Rattle.amoebot_state.specs.declared.cell.CellName.TheVariants as name
use Rattle.amoebot_state.specs.declared.cell.Cell.{Cell}
use Rattle.amoebot_state.specs.Ports.{own_nodes, is_own, is_contracted, ports, behind, end_node, global}
use Rattle.amoebot_state.specs.Pairs.{Pairs, Triples, cell_of, cell_value, plain_patch}
use Rattle.amoebot_state.specs.Configs.{Config, IsValid, bot_at, bot_of, blank, covers, occupant, value}
use Rattle.amoebot_state.specs.Zones.{shown, shown_with, zone, zone_nodes, others}
use Rattle.amoebot_state.specs.Known.{IsFront, next_cell}
use Rattle.amoebot_state.specs.Patches.{IsPatched}
use Rattle.amoebot_state.proofs.Directions.{global_below}
use Rattle.amoebot_state.proofs.Distinct.{taken_from_none}
use Rattle.amoebot_state.proofs.Known.{shown_lists_zone, shown_holds_values, front_stands, whole_zone_is_shown}
use Rattle.amoebot_state.proofs.Members.{Has, here, later, has_cases, not_in_none, Has-append_left, Has-append_right, Has-append_cases, Has-map, map_has, filter_has, Has-filter_map, filter_map_has, distinct_has, Has-distinct, All-from_Has, Has-from_Contains}
use Rattle.amoebot_state.proofs.Occupants.{occupant_at, occupant_covers, covers_below, id_below}
use Rattle.amoebot_state.proofs.Once.{same_body}
use Rattle.amoebot_state.proofs.Options.{there_is}
use Rattle.amoebot_state.proofs.Patched.{All-at}
use Rattle.amoebot_state.proofs.Zones.{node_eq_equiv, zone_is, spot_node, others_occupy, zone_inside}
use Rattle.round_meter.specs.Asking.{IsInReach, cells_among, closed_ring, nodes_of_cell, nodes_asked, ids_on, ids_round, ids_asked}

-- ---- what a patch keeps

-- a cell that a patch does not change holds what it held
cell_kept : (c d : Config) (ps : Pairs) (n : CellName) → IsPatched c ps d → (Has n (map cell_of ps) → ⊥) → value d n ≡ value c n
cell_kept c d ps n patched lacks = patched.kept n (All-from_Has (λ (p : CellName × Cell). cell_of p ≢ n) ps (λ p has e. lacks (subst (λ k. Has k (map cell_of ps)) e (Has-map cell_of has))))

-- all but the amoebots, their number, and which ids there are
rest_kept : (c d : Config) (ps : Pairs) → IsPatched c ps d → d ≡ record c { bots = d.bots }
rest_kept c d ps patched = patched.same.rest

pub number_kept : (c d : Config) (ps : Pairs) → IsPatched c ps d → length d.bots ≡ length c.bots
number_kept c d ps patched = patched.same.size

there_still : (c d : Config) (ps : Pairs) (b : ℕ) → IsPatched c ps d → IsSome (bot_at c b) → IsSome (bot_at d b)
there_still c d ps b patched there = patched.same.ids b ∙ there

-- an amoebot is shown the same where no cell of its zone is changed
pub untouched : (c d : Config) (ps : Pairs) (b : ℕ) → IsPatched c ps d → IsSome (bot_at c b) → ((k : CellName) → Has k (zone c b) → Has k (map cell_of ps) → ⊥) → shown d b ≡ shown c b
untouched c d ps b patched there apart =
    let cells = (shown c b).cells in
    let area : d.area ≡ c.area = ap (λ (e : Config). e.area) (rest_kept c d ps patched) in
    let held : All (λ (p : CellName × Cell). value d (cell_of p) ≡ Some (cell_value p)) cells = All-from_Has (λ (p : CellName × Cell). value d (cell_of p) ≡ Some (cell_value p)) cells (λ p has.
    let listed : Has (cell_of p) (zone c b) = subst (Has (cell_of p)) (shown_lists_zone c b) (Has-map cell_of has) in
    cell_kept c d ps (cell_of p) patched (apart (cell_of p) listed) ∙ All-at (λ (q : CellName × Cell). value c (cell_of q) ≡ Some (cell_value q)) cells (shown_holds_values c b) has) in
    let own : IsFront cells cells = sym (take-length cells) in
    let front = front_stands c d b cells area own held in
    let whole : cells ≡ (shown d b).cells = (whole_zone_is_shown d b cells (there_still c d ps b patched there) front).0 (ap (λ a. next_cell a b cells) area ∙ (whole_zone_is_shown c b cells there own).1 refl) in
    ap (shown_with d b) (sym whole) ∙ ap (λ (e : Config). shown_with e b cells) (rest_kept c d ps patched)

-- ---- nodes and those round them

ring_has : (v : Node) (d : ℕ) → d < 6 → Has (step v d) (ring v)
ring_has v = each_direction (λ d. Has (step v d) (ring v)) here (later here) (later (later here)) (later (later (later here))) (later (later (later (later here)))) (later (later (later (later (later here)))))

Has-flat_map : {A B : Type 0} (f : A → List B) {x : A} {y : B} (xs : List A) → Has x xs → Has y (f x) → Has y (flat_map f xs)
Has-flat_map f [] has inside = absurd (not_in_none has)
Has-flat_map {A} {B} f {x} {y} (z ∷ xs) has inside = elim (has_cases has) [
  | inl e ↦ Has-append_left (flat_map f xs) (subst (λ w. Has y (f w)) e inside)
  | inr r ↦ Has-append_right (f z) (Has-flat_map f xs r inside)
]

end_is_own : (b : Bot) (e : End) → is_own b (end_node b e) ≡ true
end_is_own b Head = or_left (node_eq b.head b.head) (node_eq b.tail b.head) (node_eq_same b.head)
end_is_own b Tail = or_right (node_eq b.head b.tail) (node_eq b.tail b.tail) (node_eq_same b.tail)

own_is_own : (b : Bot) (v : Node) → Has v (own_nodes b) → is_own b v ≡ true
own_is_own b v = elim (cases_Bool (is_contracted b)) as (λ _. Has v (own_nodes b) → is_own b v ≡ true) [
  | inl t ↦ rw t (λ has. elim (has_cases has) [ inl e ↦ ap (is_own b) e ∙ end_is_own b Head | inr r ↦ absurd (not_in_none r) ])
  | inr f ↦ rw f (λ has. elim (has_cases has) [
    | inl e ↦ ap (is_own b) e ∙ end_is_own b Head
    | inr r ↦ elim (has_cases r) [ inl e ↦ ap (is_own b) e ∙ end_is_own b Tail | inr q ↦ absurd (not_in_none q) ]
  ])
]

-- on or round a node of a zone there is a node of the amoebot
own_round : (a : Extent) (b : Bot) (v : Node) → Has v (zone_nodes a b) → (u : Node) × (is_own b u ≡ true) × Has u (closed_ring v)
own_round a b v has = elim (Has-append_cases (own_nodes b) (distinct_has node_eq (own_nodes b ++ filter (is_in a) (map (behind b) (ports b))) has)) [
  | inl own ↦ (v, own_is_own b v own, here)
  | inr next ↦
      let found = map_has (behind b) (ports b) (filter_has (is_in a) (map (behind b) (ports b)) next).0 in
      let p = found.0 in
      let u = end_node b p.end in
      let leads : Adjacent u v = (global b p.dir, global_below b p.dir, found.2) in
      let back = Adjacent-sym u v leads in
      (u, end_is_own b p.end, later (subst (λ w. Has w (ring v)) (sym back.2) (ring_has v back.0 back.1)))
]

module _ (c : Config) (b : ℕ) (own : Bot) (valid : IsValid c) (at : bot_at c b ≡ Some own) where
  own_occupies : (u : Node) → is_own own u ≡ true → occupant c u ≡ Some b
  own_occupies u t = occupant_at c valid b u (ap (λ o. covers o u) at ∙ t)

  -- an amoebot with one of these nodes in its zone is on or round them
  round_has : (v : Node) (vs : List Node) → Has v vs → Has v (zone_nodes c.area own) → Has b (ids_round c vs)
  round_has v vs listed has =
      let near = own_round c.area own v has in
      Has-flat_map (λ w. ids_on c (closed_ring w)) vs listed (Has-filter_map (occupant c) (closed_ring v) near.2 (own_occupies near.0 near.1))

  covered_is : (o : Option Bot) (v : Node) → covers o v ≡ true → Has v ((unwrap_or o blank).head ∷ (unwrap_or o blank).tail ∷ [])
  covered_is None v t = absurd (false≢true t)
  covered_is (Some a) v t = elim (or_cases (node_eq a.head v) (node_eq a.tail v) t) [
    | inl h ↦ subst (λ w. Has w (a.head ∷ a.tail ∷ [])) (node_eq-true a.head v h) here
    | inr h ↦ subst (λ w. Has w (a.head ∷ a.tail ∷ [])) (node_eq-true a.tail v h) (later here)
  ]

  -- an amoebot with a cell in its zone is on or round the cell's nodes
  cell_round : (k : CellName) → Has k (zone c b) → Has b (ids_round c (nodes_of_cell c k))
  cell_round (name.Spot v) has = round_has v (v ∷ []) here (spot_node c b own v at has)
  cell_round (name.Body i) has = elim (has_cases (subst (Has (name.Body i)) (zone_is c b own at) has)) [
    | inl e ↦
        let same : b ≡ i = sym (same_body i b e) in
        let mine : bot_of c b ≡ own = ap (λ o. unwrap_or o blank) at in
        let head : occupant c (bot_of c b).head ≡ Some b = own_occupies (bot_of c b).head (ap (λ (a : Bot). is_own own a.head) mine ∙ end_is_own own Head) in
        let first : Has b (ids_round c (nodes_of_cell c (name.Body b))) = Has-append_left (ids_round c ((bot_of c b).tail ∷ [])) (Has-filter_map (occupant c) (closed_ring (bot_of c b).head) here head) in
        subst (λ j. Has b (ids_round c (nodes_of_cell c (name.Body j)))) same first
    | inr rest ↦ elim (Has-append_cases (map name.Spot (zone_nodes c.area own)) rest) [
      | inl spot ↦ let found = map_has name.Spot (zone_nodes c.area own) spot in let f = found.2 in absurd (cc)
      | inr body ↦
          let found = map_has name.Body (others (occupant c) b (zone_nodes c.area own)) body in
          let same : found.0 ≡ i = sym (same_body i found.0 found.2) in
          let by = others_occupy (occupant c) b (zone_nodes c.area own) i (subst (λ j. Has j (others (occupant c) b (zone_nodes c.area own))) same found.1) in
          round_has by.0 (nodes_of_cell c (name.Body i)) (covered_is (bot_at c i) by.0 (occupant_covers c by.0 i by.2)) by.1
    ]
  ]

-- ---- those that are asked

-- the cells that a patch changes are those that it gives new values
names : (patch : Triples) → map cell_of (plain_patch patch) ≡ cells_among patch
names [] = refl
names (t ∷ ts) = ap (λ cells. t.0 ∷ cells) (names ts)

flat_map_has : {A B : Type 0} (f : A → List B) {y : B} (xs : List A) → Has y (flat_map f xs) → (x : A) × Has x xs × Has y (f x)
flat_map_has f [] has = absurd (not_in_none has)
flat_map_has f (x ∷ xs) has = elim (Has-append_cases (f x) has) [
  | inl first ↦ (x, here, first)
  | inr rest ↦ let found = flat_map_has f xs rest in (found.0, later found.1, found.2)
]

-- an amoebot on or round a node of a changed cell is asked
asked_has : (c : Config) (cells : List CellName) (b : ℕ) (k : CellName) → Has k cells → Has b (ids_round c (nodes_of_cell c k)) → Has b (ids_asked c cells)
asked_has c cells b k changed has =
    let all = flat_map (nodes_of_cell c) cells in
    let by = flat_map_has (λ v. ids_on c (closed_ring v)) (nodes_of_cell c k) has in
    let node : Has by.0 (nodes_asked c cells) = subst (Has by.0) (sym (taken_from_none node_eq_equiv all)) (Has-distinct node_eq node_eq-true all (Has-flat_map (nodes_of_cell c) cells changed by.1)) in
    let near : Has b (ids_round c (nodes_asked c cells)) = Has-flat_map (λ v. ids_on c (closed_ring v)) (nodes_asked c cells) node by.2 in
    subst (Has b) (sym (taken_from_none nat_eq_equiv (ids_round c (nodes_asked c cells)))) (Has-distinct nat_eq eqb-true (ids_round c (nodes_asked c cells)) near)

-- an amoebot that is not asked again is shown the same
pub unasked_is_shown : (c d : Config) (patch : Triples) (b : ℕ) → IsValid c → IsPatched c (plain_patch patch) d → IsSome (bot_at c b) → (Has b (ids_asked c (cells_among patch)) → ⊥) → shown d b ≡ shown c b
unasked_is_shown c d patch b valid patched there lacks =
    let own = there_is (bot_at c b) there in
    untouched c d (plain_patch patch) b patched there (λ k has changed. lacks (asked_has c (cells_among patch) b k (subst (Has k) (names patch) changed) (cell_round c b own.0 valid own.1 k has)))

-- each that is asked is an amoebot
near_there : (c : Config) (vs : List Node) (b : ℕ) → Has b (ids_round c vs) → b < length c.bots
near_there c vs b has =
    let node = flat_map_has (λ v. ids_on c (closed_ring v)) vs has in
    let found = filter_map_has (occupant c) (closed_ring node.0) node.2 in
    covers_below c b found.0 (occupant_covers c found.0 b found.2)

pub asked_there : (c : Config) (cells : List CellName) → All (λ i. i < length c.bots) (ids_asked c cells)
asked_there c cells = All-from_Has (λ i. i < length c.bots) (ids_asked c cells) (λ i has. near_there c (nodes_asked c cells) i (distinct_has nat_eq (ids_round c (nodes_asked c cells)) (subst (Has i) (taken_from_none nat_eq_equiv (ids_round c (nodes_asked c cells))) has)))

-- also in what the patch leads to
pub asked_still : (c d : Config) (patch : Triples) (ids : List ℕ) → IsPatched c (plain_patch patch) d → ids ≡ ids_asked c (cells_among patch) → All (λ i. i < length d.bots) ids
asked_still c d patch ids patched is k j lt =
    let below = asked_there c (cells_among patch) k j (subst (λ js. k < length js) is lt) in
    let same = ap (λ js. get_or js k j) is in
    omega (arith, below, same, number_kept c d (plain_patch patch) patched)

-- the cells that a patch changes are in reach, if they are cells of a zone
pub zone_in_reach : (c : Config) (b : ℕ) (patch : Triples) → IsValid c → IsSome (bot_at c b) → All (λ (p : CellName × Cell). Contains (zone c b) (cell_of p)) (plain_patch patch) → All (IsInReach c) (cells_among patch)
zone_in_reach c b patch valid there within = subst (All (IsInReach c)) (names patch) (All-from_Has (IsInReach c) (map cell_of (plain_patch patch)) (λ k has.
    let from = map_has cell_of (plain_patch patch) has in
    let has_cell = Has-from_Contains (zone c b) (All-at (λ (p : CellName × Cell). Contains (zone c b) (cell_of p)) (plain_patch patch) within from.1) in
    let own = there_is (bot_at c b) there in
    reach own.0 own.1 k (subst (λ n. Has n (zone c b)) (sym from.2) has_cell)))
  where
    reach : (own : Bot) → bot_at c b ≡ Some own → (k : CellName) → Has k (zone c b) → IsInReach c k
    reach own at (name.Spot v) has = near_in c.area v valid.area (zone_inside c b own v valid at has)
    reach own at (name.Body i) has = elim (has_cases (subst (Has (name.Body i)) (zone_is c b own at) has)) [
      | inl e ↦ subst (λ j. j < length c.bots) (sym (same_body i b e)) (id_below c b own at)
      | inr rest ↦ elim (Has-append_cases (map name.Spot (zone_nodes c.area own)) rest) [
        | inl spot ↦ let found = map_has name.Spot (zone_nodes c.area own) spot in let f = found.2 in absurd (cc)
        | inr body ↦
            let found = map_has name.Body (others (occupant c) b (zone_nodes c.area own)) body in
            let by = others_occupy (occupant c) b (zone_nodes c.area own) found.0 found.1 in
            subst (λ j. j < length c.bots) (sym (same_body i found.0 found.2)) (covers_below c found.0 by.0 (occupant_covers c by.0 found.0 by.2))
      ]
    ]
