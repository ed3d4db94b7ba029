-- How many ports, nodes and bodies there are.
use Rattle.std.proofs.Common.{◌≡◌, ◌<◌, ◌≤◌, ◌+◌, ℕ, suc, List, [], ◌∷◌, ◌++◌, map, length, Bool, true, false, not, ap, sym, ◌∙◌, refl, inl, inr, arith, Option, Some, None, filter, nat_eq}
use Rattle.std.specs.Prelude.{IsTrue, if◌then◌else◌}
use Rattle.std.specs.List.{filter_map, cons_option, count_by}
use Rattle.std.proofs.lemmas.Bool.{cases_Bool, both_ways, or_cases, eqb-true, eq-eqb}
use Rattle.std.proofs.lemmas.List.{length-append}
use Rattle.std.proofs.lemmas.List.Elements.{filter-append}
use Rattle.std.proofs.lemmas.List.Sums.{length-filter}
use Rattle.tri_lattice.specs.declared.node.Node.{Node}
use Rattle.tri_lattice.specs.Lattice.{step, node_eq}
use Rattle.tri_lattice.specs.Extent.{Extent, is_in}
use Rattle.tri_lattice.proofs.Nodes.{node_eq-true}
use Rattle.tri_lattice.proofs.EachBelow.{each_below_at, each_two}
use Rattle.tri_lattice.proofs.Steps.{is_adjacent-true}
use Rattle.amoebot_state.specs.declared.bot.Bot.{Bot}
use Rattle.amoebot_state.specs.declared.bot.Chir.{Chir}
use Rattle.amoebot_state.specs.declared.bot.Chir.TheVariants as chir
use Rattle.amoebot_state.specs.declared.cell.CellName.TheVariants as name
use Rattle.amoebot_state.specs.Ports.{ports, behind, own_nodes, is_contracted}
use Rattle.amoebot_state.specs.Configs.{Config, IsValid, bot_at, occupant, covers, is_close}
use Rattle.amoebot_state.specs.Zones.{distinct, zone_at, zone_of, zone_nodes, others}
use Rattle.amoebot_state.specs.Laws.{ContractedHasSixPorts, ExpandedHasTenPorts, SixPortsLeadToSixNodes, TenPortsLeadToEightNodes, is_spot, is_body, ZoneHasAtMostTenNodes, ZoneHasAtMostNineBodies}
use Rattle.amoebot_state.proofs.Distinct.{filter_needless}
use Rattle.amoebot_state.proofs.Members.{length-filter-le}
use Rattle.amoebot_state.proofs.Occupants.{occupant_at}
use Rattle.amoebot_state.proofs.Owns.{own_head, own_tail}
use Rattle.amoebot_state.proofs.Shifts.{shift, origin, placed, at_origin, step_shift, ports_shift, behind_ports_shift}
use Rattle.amoebot_state.proofs.Zones.{length-own_nodes-le, length-others-le}

-- the nodes that the ports of an amoebot lead to, each once
abbrev reached : Bot → List Node
reached b = distinct node_eq (map (behind b) (ports b))

-- computed for the amoebots with their head at the origin: the contracted ones
six_reached : (h : Chir) (r : ℕ) → r < 6 → length (reached (placed h r origin)) ≡ 6
six_reached chir.Plus r lt = eqb-true _ _ (each_below_at 6 (λ r. nat_eq (length (reached (placed chir.Plus r origin))) 6) refl r lt)
six_reached chir.Minus r lt = eqb-true _ _ (each_below_at 6 (λ r. nat_eq (length (reached (placed chir.Minus r origin))) 6) refl r lt)

-- and the expanded ones, with their tail in each direction
ten_ports : (h : Chir) (r k : ℕ) → r < 6 → k < 6 → length (ports (placed h r (step origin k))) ≡ 10
ten_ports chir.Plus r k lr lk = eqb-true _ _ (each_two (λ r k. nat_eq (length (ports (placed chir.Plus r (step origin k)))) 10) refl r k lr lk)
ten_ports chir.Minus r k lr lk = eqb-true _ _ (each_two (λ r k. nat_eq (length (ports (placed chir.Minus r (step origin k)))) 10) refl r k lr lk)

eight_reached : (h : Chir) (r k : ℕ) → r < 6 → k < 6 → length (reached (placed h r (step origin k))) ≡ 8
eight_reached chir.Plus r k lr lk = eqb-true _ _ (each_two (λ r k. nat_eq (length (reached (placed chir.Plus r (step origin k)))) 8) refl r k lr lk)
eight_reached chir.Minus r k lr lk = eqb-true _ _ (each_two (λ r k. nat_eq (length (reached (placed chir.Minus r (step origin k)))) 8) refl r k lr lk)

-- the tail of any amoebot is where that of one at the origin is, shifted with its head
tail_at_head : (b : Bot) → b.head ≡ b.tail → b.tail ≡ shift b.head origin
tail_at_head b e = sym e ∙ at_origin b.head

tail_beside : (b : Bot) (k : ℕ) → b.tail ≡ step b.head k → b.tail ≡ shift b.head (step origin k)
tail_beside b k e = e ∙ ap (λ v. step v k) (at_origin b.head) ∙ step_shift b.head origin k

pub contracted_has_six_ports : ContractedHasSixPorts
contracted_has_six_ports b e = ap length (ports_shift b origin (tail_at_head b e))

pub expanded_has_ten_ports : ExpandedHasTenPorts
expanded_has_ten_ports b rot (k, lt, e) = ap length (ports_shift b (step origin k) (tail_beside b k e)) ∙ ten_ports b.chir b.rot k rot lt

pub six_ports_lead_to_six_nodes : SixPortsLeadToSixNodes
six_ports_lead_to_six_nodes b rot e = behind_ports_shift b origin (tail_at_head b e) ∙ six_reached b.chir b.rot rot

pub ten_ports_lead_to_eight_nodes : TenPortsLeadToEightNodes
ten_ports_lead_to_eight_nodes b rot (k, lt, e) = behind_ports_shift b (step origin k) (tail_beside b k e) ∙ eight_reached b.chir b.rot k rot lt

-- two filters may be exchanged
filter_filter : {A : Type 0} (p q : A → Bool) (xs : List A) → filter p (filter q xs) ≡ filter q (filter p xs)
filter_filter p q [] = refl
filter_filter p q (x ∷ xs) = elim (cases_Bool (p x)) [
  | inl t ↦ elim (cases_Bool (q x)) [
    | inl u ↦ rw (t, u, t) (ap (λ ys. x ∷ ys) (filter_filter p q xs))
    | inr f ↦ rw (t, f) (filter_filter p q xs)
  ]
  | inr f ↦ elim (cases_Bool (q x)) [
    | inl u ↦ rw (f, u, f) (filter_filter p q xs)
    | inr g ↦ rw (f, g) (filter_filter p q xs)
  ]
]

-- the distinct ones of those that pass are those that pass of the distinct ones
distinct_filter : {A : Type 0} (eq : A → A → Bool) → ((x y : A) → eq x y ≡ true → x ≡ y) → (p : A → Bool) (xs : List A) → distinct eq (filter p xs) ≡ filter p (distinct eq xs)
distinct_filter eq exact p [] = refl
distinct_filter {A} eq exact p (x ∷ xs) = elim (cases_Bool (p x)) [
  | inl t ↦ rw t (ap (λ ys. x ∷ ys) (ap (filter (λ y. not (eq x y))) (distinct_filter eq exact p xs) ∙ filter_filter (λ y. not (eq x y)) p (distinct eq xs)))
  | inr f ↦
      let apart : (y : A) → p y ≡ true → not (eq x y) ≡ true = λ y u. elim (cases_Bool (eq x y)) [
        | inl e ↦ absurd (both_ways _ f (ap p (exact x y e) ∙ u))
        | inr g ↦ ap not g
      ] in
      rw f (distinct_filter eq exact p xs ∙ sym (filter_needless (λ y. not (eq x y)) p apart (distinct eq xs)))
]

-- the distinct nodes of a list after the amoebot's own are its own, and then no more than the list has distinct ones
own_then_rest : (b : Bot) (vs : List Node) → (rest : List Node) × (distinct node_eq (own_nodes b ++ vs) ≡ own_nodes b ++ rest) × (length rest ≤ length (distinct node_eq vs))
own_then_rest b vs =
    let apart : Node → List Node → List Node = λ u us. filter (λ v. not (node_eq u v)) us in
    let all = distinct node_eq vs in
    let from_tail = length-filter-le (λ v. not (node_eq b.tail v)) all in
    elim (cases_Bool (is_contracted b)) [
      | inl t ↦ rw t (apart b.head all, refl, length-filter-le (λ v. not (node_eq b.head v)) all)
      | inr f ↦ rw f (apart b.head (apart b.tail all), rw f refl, omega (arith, length-filter-le (λ v. not (node_eq b.head v)) (apart b.tail all), from_tail))
    ]

-- the nodes of a zone are the amoebot's own, and then no more than its ports lead to
pub own_then_few : (a : Extent) (b : Bot) → (rest : List Node) × (zone_nodes a b ≡ own_nodes b ++ rest) × (length rest ≤ length (reached b))
own_then_few a b =
    let nodes = map (behind b) (ports b) in
    let (rest, whole, few) = own_then_rest b (filter (is_in a) nodes) in
    let same = ap length (distinct_filter node_eq node_eq-true (is_in a) nodes) in
    (rest, whole, omega (arith, few, same, length-filter-le (is_in a) (distinct node_eq nodes)))

-- they are at most eight
at_most_eight_reached : (b : Bot) → b.rot < 6 → IsTrue (is_close b.head b.tail) → length (reached b) ≤ 8
at_most_eight_reached b rot joined = elim (or_cases _ _ joined) [
  | inl t ↦ let six = six_ports_lead_to_six_nodes b rot (node_eq-true b.head b.tail t) in omega (arith, six)
  | inr t ↦ let eight = ten_ports_lead_to_eight_nodes b rot (is_adjacent-true b.head b.tail t) in omega (arith, eight)
]

pub at_most_ten_nodes : (a : Extent) (b : Bot) → b.rot < 6 → IsTrue (is_close b.head b.tail) → length (zone_nodes a b) ≤ 10
at_most_ten_nodes a b rot joined =
    let (rest, whole, few) = own_then_few a b in
    omega (arith, ap length whole, length-append (own_nodes b) rest, length-own_nodes-le b, few, at_most_eight_reached b rot joined)

-- a node that the amoebot itself occupies has none of the others
others_past_own : (c : Config) (i : ℕ) (v : Node) (vs : List Node) → occupant c v ≡ Some i → others (occupant c) i (v ∷ vs) ≡ others (occupant c) i vs
others_past_own c i v vs e =
    ap (λ o. distinct nat_eq (filter (λ j. not (nat_eq j i)) (cons_option o (filter_map (occupant c) vs)))) e
    ∙ ap (λ t. distinct nat_eq (if not t then i ∷ filter (λ j. not (nat_eq j i)) (filter_map (occupant c) vs) else filter (λ j. not (nat_eq j i)) (filter_map (occupant c) vs))) (eq-eqb i i refl)

-- so the others are those on the nodes beyond its own
others_beyond : (c : Config) (i : ℕ) (b : Bot) (rest : List Node) → IsValid c → bot_at c i ≡ Some b → others (occupant c) i (own_nodes b ++ rest) ≡ others (occupant c) i rest
others_beyond c i b rest valid at =
    let head : occupant c b.head ≡ Some i = occupant_at c valid i b.head (ap (λ o. covers o b.head) at ∙ own_head b b.head refl) in
    let tail : occupant c b.tail ≡ Some i = occupant_at c valid i b.tail (ap (λ o. covers o b.tail) at ∙ own_tail b b.tail refl) in
    elim (cases_Bool (is_contracted b)) [
      | inl t ↦ rw t (others_past_own c i b.head rest head)
      | inr f ↦ rw f (others_past_own c i b.head (b.tail ∷ rest) head ∙ others_past_own c i b.tail rest tail)
    ]

-- each of them is on a node that a port leads to
pub at_most_eight_others : (c : Config) (i : ℕ) (b : Bot) → IsValid c → bot_at c i ≡ Some b → length (others (occupant c) i (zone_nodes c.area b)) ≤ 8
at_most_eight_others c i b valid at =
    let fits = valid.each i b at in
    let (rest, whole, few) = own_then_few c.area b in
    let same : others (occupant c) i (zone_nodes c.area b) ≡ others (occupant c) i rest = ap (others (occupant c) i) whole ∙ others_beyond c i b rest valid at in
    omega (arith, ap length same, length-others-le (occupant c) i rest, few, at_most_eight_reached b fits.rot fits.close)

-- how many cells of either kind a zone has
all_pass : {A B : Type 0} (p : B → Bool) (f : A → B) → ((x : A) → p (f x) ≡ true) → (xs : List A) → length (filter p (map f xs)) ≡ length xs
all_pass p f pass [] = refl
all_pass p f pass (x ∷ xs) = rw (pass x) (ap suc (all_pass p f pass xs))

none_pass : {A B : Type 0} (p : B → Bool) (f : A → B) → ((x : A) → p (f x) ≡ false) → (xs : List A) → length (filter p (map f xs)) ≡ 0
none_pass p f fail [] = refl
none_pass p f fail (x ∷ xs) = rw (fail x) (none_pass p f fail xs)

spots_of : (on : Node → Option ℕ) (i : ℕ) (vs : List Node) → count_by is_spot (zone_of on i vs) ≡ length vs
spots_of on i vs =
    let ids = others on i vs in
    let parts = ap length (filter-append is_spot (map name.Spot vs) (map name.Body ids)) in
    let both = length-append (filter is_spot (map name.Spot vs)) (filter is_spot (map name.Body ids)) in
    let spots = all_pass is_spot name.Spot (λ v. refl) vs in
    let bodies = none_pass is_spot name.Body (λ j. refl) ids in
    sym (length-filter is_spot (zone_of on i vs)) ∙ omega (arith, parts, both, spots, bodies)

bodies_of : (on : Node → Option ℕ) (i : ℕ) (vs : List Node) → count_by is_body (zone_of on i vs) ≡ 1 + length (others on i vs)
bodies_of on i vs =
    let ids = others on i vs in
    let parts = ap length (filter-append is_body (map name.Spot vs) (map name.Body ids)) in
    let both = length-append (filter is_body (map name.Spot vs)) (filter is_body (map name.Body ids)) in
    let spots = none_pass is_body name.Spot (λ v. refl) vs in
    let bodies = all_pass is_body name.Body (λ j. refl) ids in
    sym (length-filter is_body (zone_of on i vs)) ∙ omega (arith, parts, both, spots, bodies)

pub zone_has_at_most_ten_nodes : ZoneHasAtMostTenNodes
zone_has_at_most_ten_nodes c i valid = elim (bot_at c i) as (λ o. bot_at c i ≡ o → count_by is_spot (zone_at c.area (occupant c) i o) ≤ 10) [
  | None ↦ λ _. omega arith
  | Some b ↦ λ at.
      let fits = valid.each i b at in
      omega (arith, spots_of (occupant c) i (zone_nodes c.area b), at_most_ten_nodes c.area b fits.rot fits.close)
] refl

pub zone_has_at_most_nine_bodies : ZoneHasAtMostNineBodies
zone_has_at_most_nine_bodies c i valid = elim (bot_at c i) as (λ o. bot_at c i ≡ o → count_by is_body (zone_at c.area (occupant c) i o) ≤ 9) [
  | None ↦ λ _. omega arith
  | Some b ↦ λ at. omega (arith, bodies_of (occupant c) i (zone_nodes c.area b), at_most_eight_others c i b valid at)
] refl
