-- The cells of members that have changed are the difference.
use Rattle.std.proofs.Common.{◌≡◌, ◌≢◌, ◌<◌, ◌+◌, ℕ, List, [], ◌∷◌, ◌++◌, map, filter, get_or, Bool, true, false, not, cond, ◌||◌, ap, sym, ◌∙◌, refl, subst, inl, inr, arith, Option, Some, None, nat_eq}
use Rattle.std.specs.List.{All, find}
use Rattle.std.specs.Prelude.{IsSome, is_some}
use Rattle.std.specs.Option.{option_map}
use Rattle.std.proofs.lemmas.Bool.{cases_Bool, both_ways, eqb-true, eq-eqb, false≢true, not-false, not-true}
use Rattle.std.proofs.lemmas.List.{map-append}
use Rattle.std.proofs.lemmas.Simd.{map-map}
use Rattle.std.proofs.lemmas.Option.{none-some, same_Some}
use Rattle.std.proofs.Math.Bool.{or-true}
use Rattle.std.proofs.lemmas.List.Elements.{All-nil, All-cons, All-head, All-append, All-map, All-contains}
use Rattle.amoebot_state.specs.declared.cell.CellName.{CellName}
use Rattle.amoebot_state.specs.declared.cell.CellName.TheVariants as name
use Rattle.amoebot_state.specs.declared.cell.Cell.{Cell}
use Rattle.amoebot_state.specs.declared.cell.Cell.TheVariants as cell
use Rattle.tri_lattice.specs.declared.node.Node.{Node}
use Rattle.tri_lattice.proofs.Nodes.{cases_node}
use Rattle.amoebot_state.specs.declared.bot.Bot.{Bot}
use Rattle.amoebot_state.specs.Ports.{is_own}
use Rattle.amoebot_state.specs.Pairs.{CellChange, Pairs, cell_of, cell_value, plain_triple, plain_patch}
use Rattle.amoebot_state.specs.Configs.{Config, IsValid, bot_at, bot_of, occupant, value}
use Rattle.amoebot_state.specs.Patches.{IsOrdered, IsPatched, HasOldValues, bot_eq, id_eq, rank, diff}
use Rattle.amoebot_state.specs.Zones.{shown, shown_alone}
use Rattle.amoebot_state.proofs.OldValues.{ordered_patch_is_diff}
use Rattle.amoebot_state.proofs.Shows.{shown_valid}
use Rattle.amoebot_state.proofs.Members.{Has, here, later, has_cases, not_in_none, Has-append_cases, Has-append_right, Has-map, map_has, Has-filter, filter_has, All-from_Has, Contains-from_Has}
use Rattle.amoebot_state.proofs.Owns.{own_cases}
use Rattle.amoebot_state.proofs.Values.{value_same, bot_eq-true, id_eq-true}
use Rattle.amoebot_state.proofs.RisingLists.{Rising, none, more, Rising-append, Rising-weaker, Rising-map, increasing-from_Rising}
use Rattle.model_ops.specs.declared.member.Member.{Member}
use Rattle.model_ops.specs.Members.{AreApart, IsSite, ranked, has_id, changed_cells, body_change, body_now, config_found, config_now, id_found_on, id_on, has_changed, nodes_of, changed_spot, is_changed}
use Rattle.model_ops.proofs.Members.{bot_by, find_first, occupant_of}
use Rattle.model_ops.proofs.Ranked.{IsBelow, AreRising, ranked_has, Has-ranked, rising_ranked, apart_filter}
use Rattle.model_ops.proofs.OneNode.{OneNode, one_node}
use Rattle.model_ops.proofs.KeepsRest.{reached_keeps_rest}
use Rattle.model_ops.specs.Laws.{KeepsRest}
use Rattle.model_ops.specs.Reaches.{Reaches}
use Rattle.model_ops.proofs.Told.{bot_is}

-- what the first element that passes tells
find_told : {X : Type 0} (p : X → Bool) (xs : List X) (x : X) → find p xs ≡ Some x → Has x xs × (p x ≡ true)
find_told p [] x = λ e. absurd (none-some x e)
find_told p (y ∷ xs) x = elim (cases_Bool (p y)) as (λ _. find p (y ∷ xs) ≡ Some x → Has x (y ∷ xs) × (p x ≡ true)) [
  | inl t ↦ rw t (λ e. let same = same_Some y x e in (subst (λ z. Has z (y ∷ xs)) same here, ap p (sym same) ∙ t))
  | inr f ↦ rw f (λ e. let rest = find_told p xs x e in (later rest.0, rest.1))
]

find_none : {X : Type 0} (p : X → Bool) (xs : List X) (x : X) → find p xs ≡ None → Has x xs → p x ≡ false
find_none p [] x = λ e has. absurd (not_in_none has)
find_none {X} p (y ∷ xs) x = elim (cases_Bool (p y)) as (λ _. find p (y ∷ xs) ≡ None → Has x (y ∷ xs) → p x ≡ false) [
  | inl t ↦ rw t (λ e has. absurd (none-some y (sym e)))
  | inr f ↦ rw f (λ e has. elim (has_cases has) [ inl same ↦ ap p same ∙ f | inr rest ↦ find_none p xs x e rest ])
]

-- a member is found by its id
below_all : (i : ℕ) (ms : List Member) (m : Member) → IsBelow i ms → Has m ms → i < m.id
below_all i [] m below has = absurd (not_in_none has)
below_all i (n ∷ ms) m below has = elim (has_cases has) [
  | inl e ↦ let same = ap (λ (k : Member). k.id) e in omega (arith, below.0)
  | inr rest ↦ below_all i ms m below.1 rest
]

listed_id : (ms : List Member) (m : Member) → Has m ms → has_id ms m.id ≡ true
listed_id [] m has = absurd (not_in_none has)
listed_id (n ∷ ms) m has = elim (has_cases has) [
  | inl e ↦ ap (λ t. t || has_id ms m.id) (eq-eqb n.id m.id (ap (λ (k : Member). k.id) (sym e)))
  | inr rest ↦ ap (λ t. nat_eq n.id m.id || t) (listed_id ms m rest) ∙ or-true (nat_eq n.id m.id)
]

find_member : (ms : List Member) (m : Member) → AreApart ms → Has m ms → find (λ (n : Member). nat_eq n.id m.id) ms ≡ Some m
find_member [] m apart has = absurd (not_in_none has)
find_member (n ∷ ms) m apart has = elim (has_cases has) [
  | inl e ↦
      let same : n.id ≡ m.id = ap (λ (k : Member). k.id) (sym e) in
      ap (λ t. cond t (Some n) (find (λ (k : Member). nat_eq k.id m.id) ms)) (eq-eqb n.id m.id same) ∙ ap Some (sym e)
  | inr rest ↦
      let other : nat_eq n.id m.id ≡ false = elim (cases_Bool (nat_eq n.id m.id)) [
        | inl t ↦ absurd (both_ways _ apart.0 (ap (has_id ms) (eqb-true n.id m.id t) ∙ listed_id ms m rest))
        | inr f ↦ f
      ] in
      ap (λ t. cond t (Some n) (find (λ (k : Member). nat_eq k.id m.id) ms)) other ∙ find_member ms m apart.1 rest
]

rising_by_id : (ms : List Member) → AreRising ms → Rising (λ (m : Member). m.id) ms
rising_by_id [] rising = none
rising_by_id (m ∷ ms) rising = more (λ n has. below_all m.id ms n rising.0 has) (rising_by_id ms rising.1)

-- a member that has changed
changed_told : (m : Member) → is_changed m ≡ true → m.found ≢ m.now
changed_told m t same = both_ways _ (not-true _ t) (ap (bot_eq m.found) (sym same) ∙ value_same (Some (cell.Body m.found)))

module _ (c : Config) (own : ℕ) (ms : List Member) (m : Member) (apart : AreApart ms) (is : find (λ (n : Member). nat_eq n.id own) ms ≡ Some m) (one : OneNode (config_found c ms) own (config_now c ms)) where
  abbrev old : Config
  old = config_found c ms

  abbrev new : Config
  new = config_now c ms

  -- the amoebots of members
  was : (n : Member) → Has n ms → bot_at old n.id ≡ Some n.found
  was n has = bot_by (λ (k : Member). k.found) c ms n.id ∙ ap (option_map (λ (k : Member). k.found)) (find_member ms n apart has)

  now : (n : Member) → Has n ms → bot_at new n.id ≡ Some n.now
  now n has = bot_by (λ (k : Member). k.now) c ms n.id ∙ ap (option_map (λ (k : Member). k.now)) (find_member ms n apart has)

  own_was : bot_of old own ≡ m.found
  own_was = bot_is old own m.found (bot_by (λ (k : Member). k.found) c ms own ∙ ap (option_map (λ (k : Member). k.found)) is)

  own_now : bot_of new own ≡ m.now
  own_now = bot_is new own m.now (bot_by (λ (k : Member). k.now) c ms own ∙ ap (option_map (λ (k : Member). k.now)) is)

  -- the one node is among those that are looked at
  node_listed : Has one.node (nodes_of m)
  node_listed =
      let P : Node → Type 0 = λ v. Has v (nodes_of m) in
      elim one.own [
        | inl t ↦ elim (own_cases m.found one.node (ap (λ (b : Bot). is_own b one.node) (sym own_was) ∙ t)) [
          | inl h ↦ subst P h (later (later here))
          | inr h ↦ subst P h (later here)
        ]
        | inr t ↦ elim (own_cases m.now one.node (ap (λ (b : Bot). is_own b one.node) (sym own_now) ∙ t)) [
          | inl h ↦ subst P h here
          | inr h ↦ subst P h (later (later (later here)))
        ]
      ]

  occupants : (v : Node) → (id_found_on ms v ≡ occupant old v) × (id_on ms v ≡ occupant new v)
  occupants v = (sym (occupant_of (λ (k : Member). k.found) c ms v apart), sym (occupant_of (λ (k : Member). k.now) c ms v apart))

  spot_differs : (v : Node) → has_changed ms v ≡ true → occupant new v ≢ occupant old v
  spot_differs v t same =
      let (before, after) = occupants v in
      let equal : id_eq (id_found_on ms v) (id_on ms v) ≡ true = ap (id_eq (id_found_on ms v)) (after ∙ same ∙ sym before) ∙ value_same (Some (cell.Spot (id_found_on ms v))) in
      false≢true (sym (ap not equal) ∙ t)

  spot_same : (v : Node) → has_changed ms v ≡ false → occupant new v ≡ occupant old v
  spot_same v f =
      let (before, after) = occupants v in
      sym after ∙ sym (id_eq-true (id_found_on ms v) (id_on ms v) (not-false _ f)) ∙ before

  -- a node whose occupant has changed is the one node
  spot_is : (v : Node) → has_changed ms v ≡ true → v ≡ one.node
  spot_is v t = elim (cases_node v one.node) [ inl e ↦ e | inr ne ↦ absurd (spot_differs v t (one.spots v ne)) ]

  -- the pairs that are listed
  abbrev spots : List (CellName × Cell)
  spots = plain_patch (changed_spot ms (find (has_changed ms) (nodes_of m)))

  abbrev bodies : List (CellName × Cell)
  bodies = map body_now (ranked (filter is_changed ms))

  spot_told : (p : CellName × Cell) (o : Option Node) → find (has_changed ms) (nodes_of m) ≡ o → Has p (plain_patch (changed_spot ms o)) → (v : Node) × (has_changed ms v ≡ true) × (p ≡ (name.Spot v, cell.Spot (id_on ms v)))
  spot_told p None e has = absurd (not_in_none has)
  spot_told p (Some v) e has = elim (has_cases has) [
    | inl same ↦ (v, (find_told (has_changed ms) (nodes_of m) v e).1, same)
    | inr rest ↦ absurd (not_in_none rest)
  ]

  body_told : (p : CellName × Cell) → Has p bodies → (n : Member) × Has n ms × (p ≡ body_now n) × (n.found ≢ n.now)
  body_told p has =
      let (n, listed, e) = map_has body_now (ranked (filter is_changed ms)) has in
      let kept = filter_has is_changed ms (ranked_has (filter is_changed ms) n listed) in
      (n, kept.0, e, changed_told n kept.1)

  given : (p : CellName × Cell) → Has p (spots ++ bodies) → value new (cell_of p) ≡ Some (cell_value p)
  given p has =
      let P : CellName × Cell → Type 0 = λ q. value new (cell_of q) ≡ Some (cell_value q) in
      elim (Has-append_cases spots has) [
        | inl s ↦ let (v, t, e) = spot_told p (find (has_changed ms) (nodes_of m)) refl s in subst P (sym e) (ap (λ o. Some (cell.Spot o)) (sym (occupants v).1))
        | inr b ↦ let (n, listed, e, ne) = body_told p b in subst P (sym e) (ap (option_map cell.Body) (now n listed))
      ]

  differs : (p : CellName × Cell) → Has p (spots ++ bodies) → value old (cell_of p) ≢ Some (cell_value p)
  differs p has =
      let P : CellName × Cell → Type 0 = λ q. value old (cell_of q) ≢ Some (cell_value q) in
      elim (Has-append_cases spots has) [
        | inl s ↦ let (v, t, e) = spot_told p (find (has_changed ms) (nodes_of m)) refl s in subst P (sym e) (λ h. let same : occupant old v ≡ id_on ms v = cc in spot_differs v t (sym (occupants v).1 ∙ sym same))
        | inr b ↦ let (n, listed, e, ne) = body_told p b in subst P (sym e) (λ h. let f = sym (ap (option_map cell.Body) (was n listed)) ∙ h in let same : n.found ≡ n.now = cc in ne same)
      ]

  -- what is not listed stays
  lacking : (n : CellName) (p : CellName × Cell) → All (λ (q : CellName × Cell). cell_of q ≢ n) (spots ++ bodies) → Has p (spots ++ bodies) → cell_of p ≢ n
  lacking n p lacks has = All-contains (λ (q : CellName × Cell). cell_of q ≢ n) (spots ++ bodies) p lacks (Contains-from_Has (spots ++ bodies) has)

  body_kept : (j : ℕ) (o : Option Member) → find (λ (k : Member). nat_eq k.id j) ms ≡ o → All (λ (q : CellName × Cell). cell_of q ≢ name.Body j) (spots ++ bodies) → bot_at new j ≡ bot_at old j
  body_kept j None e lacks = bot_by (λ (k : Member). k.now) c ms j ∙ ap (option_map (λ (k : Member). k.now)) e ∙ sym (bot_by (λ (k : Member). k.found) c ms j ∙ ap (option_map (λ (k : Member). k.found)) e)
  body_kept j (Some n) e lacks =
      let (listed, t) = find_told (λ (k : Member). nat_eq k.id j) ms n e in
      elim (cases_Bool (bot_eq n.found n.now)) [
        | inl same ↦
            bot_by (λ (k : Member). k.now) c ms j ∙ ap (option_map (λ (k : Member). k.now)) e
            ∙ ap Some (sym (bot_eq-true n.found n.now same))
            ∙ sym (bot_by (λ (k : Member). k.found) c ms j ∙ ap (option_map (λ (k : Member). k.found)) e)
        | inr f ↦
            let pair = Has-map body_now (Has-ranked (filter is_changed ms) n (Has-filter is_changed ms listed (ap not f))) in
            absurd (lacking (name.Body j) (body_now n) lacks (Has-append_right spots pair) (ap name.Body (eqb-true n.id j t)))
      ]

  spot_kept : (v : Node) (o : Option Node) → find (has_changed ms) (nodes_of m) ≡ o → All (λ (q : CellName × Cell). cell_of q ≢ name.Spot v) (plain_patch (changed_spot ms o) ++ bodies) → occupant new v ≡ occupant old v
  spot_kept v None e lacks = elim (cases_node v one.node) [
    | inl same ↦ spot_same v (ap (has_changed ms) same ∙ find_none (has_changed ms) (nodes_of m) one.node e node_listed)
    | inr ne ↦ one.spots v ne
  ]
  spot_kept v (Some u) e lacks = elim (cases_node v one.node) [
    | inl same ↦
        let told = find_told (has_changed ms) (nodes_of m) u e in
        absurd (All-head (λ (q : CellName × Cell). cell_of q ≢ name.Spot v) (name.Spot u, cell.Spot (id_on ms u)) bodies lacks (ap name.Spot (spot_is u told.1 ∙ sym same)))
    | inr ne ↦ one.spots v ne
  ]

  kept : (n : CellName) → All (λ (p : CellName × Cell). cell_of p ≢ n) (spots ++ bodies) → value new n ≡ value old n
  kept (name.Spot v) lacks = ap (λ o. Some (cell.Spot o)) (spot_kept v (find (has_changed ms) (nodes_of m)) refl lacks)
  kept (name.Body j) lacks = ap (option_map cell.Body) (body_kept j (find (λ (k : Member). nat_eq k.id j) ms) refl lacks)

  abbrev key : CellName × Cell → ℕ
  key p = rank (cell_of p)

  spots_rise : (o : Option Node) → Rising key (plain_patch (changed_spot ms o))
  spots_rise None = none
  spots_rise (Some v) = more (λ y has. absurd (not_in_none has)) none

  bodies_rise : Rising key bodies
  bodies_rise = Rising-map (λ (n : Member). n.id + 1) key body_now (λ n has. refl) (Rising-weaker (λ (n : Member). n.id) (λ (n : Member). n.id + 1) (λ n k hn hk lt. omega (arith, lt)) (rising_by_id (ranked (filter is_changed ms)) (rising_ranked (filter is_changed ms) (apart_filter is_changed ms apart))))

  ordered : IsOrdered (spots ++ bodies)
  ordered = increasing-from_Rising key (spots ++ bodies) (Rising-append key (spots_rise (find (has_changed ms) (nodes_of m))) bodies_rise (λ p q hp hq.
      let (v, t, e) = spot_told p (find (has_changed ms) (nodes_of m)) refl hp in
      let (n, listed, f, ne) = body_told q hq in
      omega (arith, ap key e, ap key f)))

  -- these are the pairs of the cells that have changed
  plain_is : plain_patch (changed_cells ms m) ≡ spots ++ bodies
  plain_is =
      let members = ranked (filter is_changed ms) in
      map-append plain_triple (changed_spot ms (find (has_changed ms) (nodes_of m))) (map body_change members)
      ∙ ap (λ (ps : Pairs). spots ++ ps) (map-map plain_triple body_change members)

  -- whose old values are those found
  abbrev Found : CellChange → Type 0
  Found t = value old t.0 ≡ Some t.1

  spots_found : (o : Option Node) → HasOldValues old (changed_spot ms o)
  spots_found None = All-nil Found
  spots_found (Some v) = All-cons Found (name.Spot v, cell.Spot (id_found_on ms v), cell.Spot (id_on ms v)) [] (ap (λ o. Some (cell.Spot o)) (sym (occupants v).0)) (All-nil Found)

  bodies_found : HasOldValues old (map body_change (ranked (filter is_changed ms)))
  bodies_found =
      let Was : Member → Type 0 = λ n. Found (body_change n) in
      let members = ranked (filter is_changed ms) in
      All-map Found body_change members (All-from_Has Was members (λ n has. ap (option_map cell.Body) (was n (filter_has is_changed ms (ranked_has (filter is_changed ms) n has)).0)))

  cells_found : HasOldValues old (changed_cells ms m)
  cells_found = All-append Found (changed_spot ms (find (has_changed ms) (nodes_of m))) (map body_change (ranked (filter is_changed ms))) (spots_found (find (has_changed ms) (nodes_of m))) bodies_found

  -- so they are the difference
  pub difference : IsValid old → KeepsRest old own new → changed_cells ms m ≡ diff old new
  difference valid keeps =
      let Given : CellName × Cell → Type 0 = λ p. value new (cell_of p) ≡ Some (cell_value p) in
      let Differs : CellName × Cell → Type 0 = λ p. value old (cell_of p) ≢ Some (cell_value p) in
      let P : Pairs → Type 0 = λ ps. IsPatched old ps new in
      let patched : P (spots ++ bodies) = record { valid = keeps.valid; same = keeps.same; given = All-from_Has Given (spots ++ bodies) given; kept = kept } in
      let back = sym plain_is in
      ordered_patch_is_diff old new (changed_cells ms m) valid (subst P back patched) (subst IsOrdered back ordered) (subst (All Differs) back (All-from_Has Differs (spots ++ bodies) differs)) cells_found

-- what a site gives as its patch, where an activation reaches its configuration
pub patches : (c : Config) (own : ℕ) (ms : List Member) (d : Member) → IsSite c own ms → Reaches (shown_alone (shown (config_found c ms) own)) own (config_now c ms) → changed_cells ms (get_or ms 0 d) ≡ diff (shown_alone (shown (config_found c ms) own)) (config_now c ms)
patches c own ms d is reaches =
    let old = config_found c ms in
    let new = config_now c ms in
    let own_is = find_first own ms d is.first in
    let valid = subst IsValid is.whole (shown_valid (shown old own) is.was_shown) in
    let there : IsSome (bot_at old own) = ap is_some (bot_by (λ (n : Member). n.found) c ms own ∙ ap (option_map (λ (n : Member). n.found)) own_is) in
    let reached = subst (λ (e : Config). Reaches e own new) is.whole reaches in
    difference c own ms (get_or ms 0 d) is.apart own_is (one_node old own new valid there reached) valid (reached_keeps_rest old own new valid there reached)
    ∙ ap (λ (e : Config). diff e new) (sym is.whole)
