-- How a zone is found, and what it has.
use Rattle.std.proofs.Common.{◌≡◌, ◌≢◌, ◌⊎◌, ◌<◌, ◌≤◌, ℕ, List, [], ◌∷◌, ◌++◌, length, map, true, not, ap, sym, ◌∙◌, refl, inl, inr, arith, subst, Option, Some, None, filter, nat_eq}
use Rattle.std.specs.List.{All, fold, filter_map}
use Rattle.std.specs.Cmp.{IsEquivalence}
use Rattle.std.proofs.lemmas.Bool.{cases_Bool, both_ways, eqb-true, eq-eqb}
use Rattle.std.proofs.lemmas.List.{length-append, length-map}
use Rattle.std.proofs.lemmas.List.Sums.{fold-append}
use Rattle.std.proofs.lemmas.Cmp.{nat_eq_equiv}
use Rattle.tri_lattice.specs.declared.node.Node.{Node}
use Rattle.tri_lattice.specs.Extent.{Extent, is_in}
use Rattle.tri_lattice.specs.Lattice.{node_eq}
use Rattle.tri_lattice.proofs.Nodes.{node_eq-true, node_eq-false, node_eq_same, eq-node_eq, cases_node}
use Rattle.amoebot_state.specs.declared.bot.Bot.{Bot}
use Rattle.amoebot_state.specs.declared.bot.Port.{Port}
use Rattle.amoebot_state.specs.Ports.{own_nodes, is_contracted, is_port, all_ports, ports, behind}
use Rattle.amoebot_state.specs.Configs.{Config, IsValid, bot_at, occupant}
use Rattle.amoebot_state.specs.Storage.{with_new, with_port, with_other}
use Rattle.amoebot_state.specs.declared.cell.CellName.TheVariants as name
use Rattle.amoebot_state.specs.Zones.{distinct, zone_nodes, others, zone_of, zone_at, zone}
use Rattle.amoebot_state.specs.Laws.{ZoneIsDetermined}
use Rattle.amoebot_state.proofs.Distinct.{taken_from_none}
use Rattle.amoebot_state.proofs.Members.{Has, here, later, Has-map, map_has, Has-append_left, Has-append_right, has_cases, not_in_none, Has-append_cases, Has-distinct, distinct_has, Has-filter, filter_has, Has-filter_map, filter_map_has, filter_map-same, Contains-from_Has, All-from_Has, length-distinct-le, length-filter-le, length-filter_map-le}
use Rattle.amoebot_state.proofs.Occupants.{covers_below, occupant_covers}

-- node equality is an equivalence
pub node_eq_equiv : IsEquivalence node_eq
node_eq_equiv = record {
  refl = node_eq_same;
  symm = λ a b. elim (cases_node a b) [
    | inl e ↦ eq-node_eq a b e ∙ sym (eq-node_eq b a (sym e))
    | inr ne ↦ node_eq-false a b ne ∙ sym (node_eq-false b a (λ e. ne (sym e)))
  ];
  congr = λ a b c e. ap (λ v. node_eq v c) (node_eq-true a b e);
}

-- a contracted amoebot's one node, or an expanded one's two, are distinct
own_taken_up : (b : Bot) → fold (with_new node_eq) [] (own_nodes b) ≡ own_nodes b
own_taken_up b = elim (cases_Bool (is_contracted b)) [
  | inl t ↦ rw t refl
  | inr f ↦ rw (f, f) refl
]

-- the nodes behind ports are taken up as the ports are gone through
behind_taken_up : (a : Extent) (b : Bot) (ps : List Port) (vs : List Node) → fold (with_port a b) vs ps ≡ fold (with_new node_eq) vs (filter (is_in a) (map (behind b) (filter (is_port b) ps)))
behind_taken_up a b [] vs = refl
behind_taken_up a b (p ∷ ps) vs = elim (cases_Bool (is_port b p)) [
  | inl t ↦ elim (cases_Bool (is_in a (behind b p))) [
    | inl u ↦ rw (t, u) (behind_taken_up a b ps (with_new node_eq vs (behind b p)))
    | inr f ↦ rw (t, f) (behind_taken_up a b ps vs)
  ]
  | inr f ↦ rw f (behind_taken_up a b ps vs)
]

-- going through the ports from the own nodes on gives the nodes of the zone
pub ports_taken_up : (a : Extent) (b : Bot) → fold (with_port a b) (own_nodes b) all_ports ≡ zone_nodes a b
ports_taken_up a b =
    let behind_ports = filter (is_in a) (map (behind b) (ports b)) in
    behind_taken_up a b all_ports (own_nodes b)
    ∙ ap (λ vs. fold (with_new node_eq) vs behind_ports) (sym (own_taken_up b))
    ∙ sym (fold-append (with_new node_eq) [] (own_nodes b) behind_ports)
    ∙ taken_from_none node_eq_equiv (own_nodes b ++ behind_ports)

-- the occupants are taken up as the nodes are gone through
occupants_taken_up : (on : Node → Option ℕ) (i : ℕ) (vs : List Node) (is : List ℕ) → fold (λ js v. with_other i js (on v)) is vs ≡ fold (with_new nat_eq) is (filter (λ j. not (nat_eq j i)) (filter_map on vs))
occupants_taken_up on i [] is = refl
occupants_taken_up on i (v ∷ vs) is = elim (on v) as (λ o. on v ≡ o → fold (λ js v. with_other i js (on v)) is (v ∷ vs) ≡ fold (with_new nat_eq) is (filter (λ j. not (nat_eq j i)) (filter_map on (v ∷ vs)))) [
  | None ↦ λ e. rw e (occupants_taken_up on i vs is)
  | Some j ↦ λ e. elim (cases_Bool (nat_eq j i)) [
    | inl t ↦ rw (e, t) (occupants_taken_up on i vs is)
    | inr f ↦ rw (e, f) (occupants_taken_up on i vs (with_new nat_eq is j))
  ]
] refl

pub others_taken_up : (on : Node → Option ℕ) (i : ℕ) (vs : List Node) → fold (λ js v. with_other i js (on v)) [] vs ≡ others on i vs
others_taken_up on i vs = occupants_taken_up on i vs [] ∙ taken_from_none nat_eq_equiv (filter (λ j. not (nat_eq j i)) (filter_map on vs))

-- who is on the nodes of a zone, with the own amoebot, determines it
pub zone_is_determined : ZoneIsDetermined
zone_is_determined a i b on by same = ap (λ js. name.Body i ∷ (map name.Spot (zone_nodes a b) ++ map name.Body (distinct nat_eq (filter (λ j. not (nat_eq j i)) js)))) (filter_map-same on by (zone_nodes a b) (λ v has. same v (Contains-from_Has (zone_nodes a b) has)))

-- an occupant of a node is the amoebot itself or one of the others
pub occupant_in_zone : (on : Node → Option ℕ) (i : ℕ) (v : Node) (vs : List Node) (j : ℕ) → Has v vs → on v ≡ Some j → (j ≡ i) ⊎ Has j (others on i vs)
occupant_in_zone on i v vs j has e = elim (cases_Bool (nat_eq j i)) [
  | inl t ↦ inl (eqb-true j i t)
  | inr f ↦ inr (Has-distinct nat_eq eqb-true (filter (λ k. not (nat_eq k i)) (filter_map on vs)) (Has-filter (λ k. not (nat_eq k i)) (filter_map on vs) (Has-filter_map on vs has e) (ap not f)))
]

-- each of the others is an occupant of a node, and not the amoebot itself
pub others_occupy : (on : Node → Option ℕ) (i : ℕ) (vs : List Node) (j : ℕ) → Has j (others on i vs) → (v : Node) × Has v vs × (on v ≡ Some j) × (j ≢ i)
others_occupy on i vs j has =
    let kept = filter_has (λ k. not (nat_eq k i)) (filter_map on vs) (distinct_has nat_eq (filter (λ k. not (nat_eq k i)) (filter_map on vs)) has) in
    let found = filter_map_has on vs kept.0 in
    (found.0, found.1, found.2, λ e. both_ways _ (ap not (eq-eqb j i e)) kept.1)

-- so each of them is there
pub others_there : (c : Config) (i : ℕ) (vs : List Node) → All (λ j. j < length c.bots) (others (occupant c) i vs)
others_there c i vs = All-from_Has (λ j. j < length c.bots) (others (occupant c) i vs) (λ j has.
    let by = others_occupy (occupant c) i vs j has in
    covers_below c j by.0 (occupant_covers c by.0 j by.2))

-- an amoebot has at most two nodes
pub length-own_nodes-le : (b : Bot) → length (own_nodes b) ≤ 2
length-own_nodes-le b = elim (cases_Bool (is_contracted b)) [ inl t ↦ rw t (omega arith) | inr f ↦ rw f (omega arith) ]

-- bounds that the code's lists have room for
pub length-zone_nodes-le : (a : Extent) (b : Bot) → length (zone_nodes a b) ≤ 14
length-zone_nodes-le a b =
    let behind_ports = filter (is_in a) (map (behind b) (ports b)) in
    let all = length-distinct-le node_eq (own_nodes b ++ behind_ports) in
    let joined = length-append (own_nodes b) behind_ports in
    let inside = length-filter-le (is_in a) (map (behind b) (ports b)) in
    let mapped = length-map (ports b) (behind b) in
    let some = length-filter-le (is_port b) all_ports in
    let own = length-own_nodes-le b in
    omega (arith, all, joined, inside, mapped, some, own)

pub length-others-le : (on : Node → Option ℕ) (i : ℕ) (vs : List Node) → length (others on i vs) ≤ length vs
length-others-le on i vs =
    let kept = filter (λ j. not (nat_eq j i)) (filter_map on vs) in
    omega (arith, length-distinct-le nat_eq kept, length-filter-le (λ j. not (nat_eq j i)) (filter_map on vs), length-filter_map-le on vs)

pub length-zone_of-le : (on : Node → Option ℕ) (i : ℕ) (vs : List Node) → length vs ≤ 14 → length (zone_of on i vs) ≤ 29
length-zone_of-le on i vs few =
    let bodies = others on i vs in
    let both = length-append (map name.Spot vs) (map name.Body bodies) in
    let spots = length-map vs name.Spot in
    let more = length-map bodies name.Body in
    let lt = length-others-le on i vs in
    omega (arith, both, spots, more, lt, few)

-- the nodes of a zone lie in the area, if the amoebot's own do
pub zone_nodes_inside : (a : Extent) (b : Bot) (v : Node) → is_in a b.head ≡ true → is_in a b.tail ≡ true → Has v (zone_nodes a b) → is_in a v ≡ true
zone_nodes_inside a b v head tail has = elim (Has-append_cases (own_nodes b) (distinct_has node_eq (own_nodes b ++ filter (is_in a) (map (behind b) (ports b))) has)) [
  | inl own ↦ elim (own_is b v own) [ inl h ↦ ap (is_in a) h ∙ head | inr t ↦ ap (is_in a) t ∙ tail ]
  | inr next ↦ (filter_has (is_in a) (map (behind b) (ports b)) next).1
]
  where
    own_is : (b : Bot) (v : Node) → Has v (own_nodes b) → (v ≡ b.head) ⊎ (v ≡ b.tail)
    own_is b v = elim (cases_Bool (is_contracted b)) as (λ _. Has v (own_nodes b) → (v ≡ b.head) ⊎ (v ≡ b.tail)) [
      | inl t ↦ rw t (λ h. elim (has_cases h) [ inl e ↦ inl e | inr r ↦ absurd (not_in_none r) ])
      | inr f ↦ rw f (λ h. elim (has_cases h) [ inl e ↦ inl e | inr r ↦ elim (has_cases r) [ inl e ↦ inr e | inr q ↦ absurd (not_in_none q) ] ])
    ]

-- ---- which cells the zone of a configuration has

-- the zone of an amoebot that is there
pub zone_is : (c : Config) (i : ℕ) (b : Bot) → bot_at c i ≡ Some b → zone c i ≡ zone_of (occupant c) i (zone_nodes c.area b)
zone_is c i b e = ap (zone_at c.area (occupant c) i) e

pub own_in_zone : (c : Config) (i : ℕ) (b : Bot) → bot_at c i ≡ Some b → Has (name.Body i) (zone c i)
own_in_zone c i b e = subst (Has (name.Body i)) (sym (zone_is c i b e)) here

pub body_in_zone : (c : Config) (i : ℕ) (b : Bot) (v : Node) (j : ℕ) → bot_at c i ≡ Some b → Has v (zone_nodes c.area b) → occupant c v ≡ Some j → Has (name.Body j) (zone c i)
body_in_zone c i b v j e has o = elim (occupant_in_zone (occupant c) i v (zone_nodes c.area b) j has o) [
  | inl same ↦ subst (λ k. Has (name.Body k) (zone c i)) (sym same) (own_in_zone c i b e)
  | inr other ↦ subst (Has (name.Body j)) (sym (zone_is c i b e)) (later (Has-append_right (map name.Spot (zone_nodes c.area b)) (Has-map name.Body other)))
]

pub spot_in_zone : (c : Config) (i : ℕ) (b : Bot) (v : Node) → bot_at c i ≡ Some b → Has v (zone_nodes c.area b) → Has (name.Spot v) (zone c i)
spot_in_zone c i b v e has = subst (Has (name.Spot v)) (sym (zone_is c i b e)) (later (Has-append_left (map name.Body (others (occupant c) i (zone_nodes c.area b))) (Has-map name.Spot has)))

-- a node of the zone, told from its cell
pub spot_node : (c : Config) (i : ℕ) (b : Bot) (v : Node) → bot_at c i ≡ Some b → Has (name.Spot v) (zone c i) → Has v (zone_nodes c.area b)
spot_node c i b v e has = elim (has_cases (subst (Has (name.Spot v)) (zone_is c i b e) has)) [
  | inl f ↦ absurd (cc)
  | inr r ↦ elim (Has-append_cases (map name.Spot (zone_nodes c.area b)) r) [
    | inl s ↦ let found = map_has name.Spot (zone_nodes c.area b) s in let same : found.0 ≡ v = (let f = found.2 in cc) in subst (λ u. Has u (zone_nodes c.area b)) same found.1
    | inr t ↦ let found = map_has name.Body (others (occupant c) i (zone_nodes c.area b)) t in let f = found.2 in absurd (cc)
  ]
]

-- the nodes of the zone lie in the area
pub zone_inside : (c : Config) (i : ℕ) (b : Bot) (v : Node) → IsValid c → bot_at c i ≡ Some b → Has (name.Spot v) (zone c i) → is_in c.area v ≡ true
zone_inside c i b v valid e has = zone_nodes_inside c.area b v (valid.each i b e).head (valid.each i b e).tail (spot_node c i b v e has)
