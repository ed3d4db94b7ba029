-- What is shown, as the code makes and reads it.
use Rattle.std.proofs.Common.{◌≡◌, ◌≤◌, ℕ, suc, List, [], ◌∷◌, ◌++◌, length, map, filter, true, ap, sym, ◌∙◌, refl, subst, inl, inr, arith, Bor, Option, Some, None}
use Rattle.std.specs.Prelude.{IfSome, unwrap_or}
use Rattle.std.specs.List.{filter_map, cons_option}
use Rattle.std.proofs.lemmas.List.Sums.{length-filter}
use Rattle.std.specs.Option.{option_map, option_copied}
use Rattle.std.proofs.lemmas.Bool.{cases_Bool, both_ways}
use Rattle.std.proofs.lemmas.List.Elements.{filter_map-append}
use Rattle.std.proofs.lemmas.List.{append-nil, length-append, length-map}
use Rattle.std.proofs.lemmas.Option.{same_Some}
use Rattle.tri_lattice.specs.declared.node.Node.{Node}
use Rattle.tri_lattice.specs.Lattice.{node_eq}
use Rattle.tri_lattice.specs.Extent.{Extent, is_in}
use Rattle.tri_lattice.proofs.Nodes.{node_eq-true, eq-node_eq}
use Rattle.amoebot_state.specs.declared.bot.Bot.{Bot}
use Rattle.amoebot_state.specs.declared.cell.CellName.{CellName}
use Rattle.amoebot_state.specs.declared.cell.CellName.TheVariants as name
use Rattle.amoebot_state.specs.declared.cell.Cell.{Cell}
use Rattle.amoebot_state.specs.declared.cell.Cell.TheVariants as cell
use Rattle.amoebot_state.specs.Ports.{is_beside}
use Rattle.amoebot_state.specs.Configs.{Config, IsValid, bot_at, bot_of, blank, occupant}
use Rattle.amoebot_state.specs.Refusals.{IsBotInRange}
use Rattle.amoebot_state.specs.Zones.{Shown, IsShown, shown_by, shown_with, shown, shown_cell, zone, zone_nodes, others, shown_alone}
use Rattle.amoebot_state.specs.Pairs.{spot_in, body_in, nodes_in}
use Rattle.amoebot_state.specs.Known.{walls_read}
use Rattle.amoebot_state.specs.Walls.{node_numbers}
use Rattle.amoebot_state.specs.Ways.{IsFound, ways_of}
use Rattle.amoebot_state.specs.declared.way.Way.{Way}
use Rattle.amoebot_state.proofs.Counts.{at_most_ten_nodes, at_most_eight_others, zone_has_at_most_ten_nodes}
use Rattle.amoebot_state.specs.Laws.{ShownAloneHasTheZone, BesideHoldsTheSame, BesideHasTheSameWalls, is_spot}
use Rattle.amoebot_state.proofs.Members.{Has, here, later, has_cases, not_in_none, length-filter_map-le, Contains-from_Has, Has-from_Contains}
use Rattle.amoebot_state.proofs.Options.{there_is, none_if}
use Rattle.amoebot_state.proofs.Occupants.{bot_in_range, outside_empty}
use Rattle.amoebot_state.proofs.Directions.{beside_in_zone}
use Rattle.amoebot_state.proofs.ShownAlone.{spread_at, body_shown, alone_own, alone_valid, alone_occupant, alone_has, alone_only, alone_wall, no_wall_outside}
use Rattle.amoebot_state.proofs.WallsRead.{nodes_in-append, walls_are}
use Rattle.amoebot_state.proofs.Zones.{zone_is, own_in_zone, spot_in_zone, zone_inside}

-- the cells of nodes and of bodies
spot_cells : (c : Config) (vs : List Node) → filter_map (shown_cell c) (map name.Spot vs) ≡ map (λ v. (name.Spot v, cell.Spot (occupant c v))) vs
spot_cells c [] = refl
spot_cells c (v ∷ vs) = ap (λ xs. (name.Spot v, cell.Spot (occupant c v)) ∷ xs) (spot_cells c vs)

body_cells : (c : Config) (is : List ℕ) → filter_map (shown_cell c) (map name.Body is) ≡ filter_map (λ i. shown_cell c (name.Body i)) is
body_cells c [] = refl
body_cells c (i ∷ is) = ap (cons_option (shown_cell c (name.Body i))) (body_cells c is)

-- the cells that are put together one after another are those that are shown
pub cells_made : (c : Config) (i : ℕ) (own : Bot) (nodes : List Node) (ids : List ℕ) (cells : List (CellName × Cell)) → bot_at c i ≡ Some own → nodes ≡ zone_nodes c.area own → ids ≡ others (occupant c) i nodes → cells ≡ ((name.Body i, cell.Body own) ∷ map (λ v. (name.Spot v, cell.Spot (occupant c v))) nodes) ++ filter_map (λ j. shown_cell c (name.Body j)) ids → cells ≡ filter_map (shown_cell c) (zone c i)
cells_made c i own nodes ids cells at ns is made =
    let first : CellName × Cell = (name.Body i, cell.Body own) in
    let spots : List Node → List (CellName × Cell) = λ vs. map (λ v. (name.Spot v, cell.Spot (occupant c v))) vs in
    let bodies : List ℕ → List (CellName × Cell) = λ js. filter_map (λ j. shown_cell c (name.Body j)) js in
    made
    ∙ ap (λ js. (first ∷ spots nodes) ++ bodies js) is
    ∙ ap (λ vs. first ∷ (spots vs ++ bodies (others (occupant c) i vs))) ns
    ∙ ap (λ xs. first ∷ (xs ++ bodies (others (occupant c) i (zone_nodes c.area own)))) (sym (spot_cells c (zone_nodes c.area own)))
    ∙ ap (λ xs. first ∷ (filter_map (shown_cell c) (map name.Spot (zone_nodes c.area own)) ++ xs)) (sym (body_cells c (others (occupant c) i (zone_nodes c.area own))))
    ∙ ap (λ xs. first ∷ xs) (sym (filter_map-append (shown_cell c) (map name.Spot (zone_nodes c.area own)) (map name.Body (others (occupant c) i (zone_nodes c.area own)))))
    ∙ ap (λ o. cons_option (option_map (λ y. (name.Body i, y)) (option_map cell.Body o)) (filter_map (shown_cell c) (map name.Spot (zone_nodes c.area own) ++ map name.Body (others (occupant c) i (zone_nodes c.area own))))) (sym at)
    ∙ ap (filter_map (shown_cell c)) (sym (zone_is c i own at))

-- their nodes are those of the zone
pub zone_cells_nodes : (c : Config) (i : ℕ) (x : Cell) (vs : List Node) (is : List ℕ) → nodes_in (((name.Body i, x) ∷ map (λ v. (name.Spot v, cell.Spot (occupant c v))) vs) ++ filter_map (λ j. shown_cell c (name.Body j)) is) ≡ vs
zone_cells_nodes c i x vs is =
    nodes_in-append (map (λ v. (name.Spot v, cell.Spot (occupant c v))) vs) (filter_map (λ j. shown_cell c (name.Body j)) is)
    ∙ ap (λ us. us ++ nodes_in (filter_map (λ j. shown_cell c (name.Body j)) is)) (spots vs)
    ∙ ap (λ us. vs ++ us) (bodies is)
    ∙ append-nil vs
  where
    spots : (us : List Node) → nodes_in (map (λ v. (name.Spot v, cell.Spot (occupant c v))) us) ≡ us
    spots [] = refl
    spots (u ∷ us) = ap (λ ws. u ∷ ws) (spots us)

    bodies : (js : List ℕ) → nodes_in (filter_map (λ j. shown_cell c (name.Body j)) js) ≡ []
    bodies [] = refl
    bodies (j ∷ js) = elim (bot_at c j) as (λ o. bot_at c j ≡ o → nodes_in (filter_map (λ k. shown_cell c (name.Body k)) (j ∷ js)) ≡ []) [
      | None ↦ λ e. rw e (bodies js)
      | Some b ↦ λ e. rw e (bodies js)
    ] refl

-- what is shown alone is valid
pub shown_valid : (s : Shown) → IsShown s → IsValid (shown_alone s)
shown_valid s is = let P : Shown → Type 0 = λ t. IsValid (shown_alone t) in subst P is.3 (alone_valid is.0 s.bot is.1)

pub shown_in_range : (s : Shown) (b : Bot) (ways : List Way) → IsFound s b ways → IsBotInRange b
shown_in_range s b ways is = bot_in_range (shown_alone s) (shown_valid s is.shown) s.bot b is.owner

-- a zone has at most nineteen cells
pub length-shown-le : (s : Shown) → IsShown s → length s.cells ≤ 19
length-shown-le s is =
    let c = is.0 in
    let (b, at) = there_is (bot_at c s.bot) is.2 in
    let fits = is.1.each s.bot b at in
    let vs = zone_nodes c.area b in
    let ids = others (occupant c) s.bot vs in
    let parts = length-append (map name.Spot vs) (map name.Body ids) in
    let whole = ap length (zone_is c s.bot b at) in
    let le = length-filter_map-le (shown_cell c) (zone c s.bot) in
    let few : length (filter_map (shown_cell c) (zone c s.bot)) ≤ 19 = omega (arith, le, whole, parts, length-map vs name.Spot, length-map ids name.Body, at_most_ten_nodes c.area b fits.rot fits.close, at_most_eight_others c s.bot b is.1 at) in
    subst (λ (t : Shown). length t.cells ≤ 19) is.3 few

-- what is shown to an amoebot has it, as one that may stand, and with a small zone
pub shown_own : (s : Shown) → IsShown s → (b : Bot) × (body_in s.cells s.bot ≡ Some b) × IsBotInRange b × (length (zone_nodes s.area b) ≤ 10)
shown_own s is =
    let c = is.0 in
    let (b, at) = there_is (bot_at c s.bot) is.2 in
    let fits = is.1.each s.bot b at in
    let P : Shown → Type 0 = λ t. (a : Bot) × (body_in t.cells s.bot ≡ Some a) × IsBotInRange a × (length (zone_nodes t.area a) ≤ 10) in
    subst P is.3 (b, body_shown c (zone c s.bot) s.bot (own_in_zone c s.bot b at) ∙ at, bot_in_range c is.1 s.bot b at, at_most_ten_nodes c.area b fits.rot fits.close)

pub own_fits : (s : Shown) (own : Bot) → IsShown s → Some own ≡ body_in s.cells s.bot → IsBotInRange own × (length (zone_nodes s.area own) ≤ 10)
own_fits s own is e =
    let (b, at, in_range, few) = shown_own s is in
    let same : b ≡ own = same_Some b own (sym at ∙ sym e) in
    (subst IsBotInRange same in_range, subst (λ a. length (zone_nodes s.area a) ≤ 10) same few)

pub found_with : (s : Shown) (own : Bot) (ws : List Way) → IsShown s → Some own ≡ body_in s.cells s.bot → ws ≡ ways_of s.area own → IsFound s own ws
found_with s own ws is e to = record { shown = is; owner = spread_at s.cells s.bot ∙ sym e; ways = to }

-- a node of the zone has its occupant among the cells
pub spot_found : (c : Config) (names : List CellName) (v : Node) → Has (name.Spot v) names → spot_in (filter_map (shown_cell c) names) v ≡ Some (occupant c v)
spot_found c [] v has = absurd (not_in_none has)
spot_found c (name.Body i ∷ names) v has = elim (bot_at c i) as (λ o. bot_at c i ≡ o → spot_in (filter_map (shown_cell c) (name.Body i ∷ names)) v ≡ Some (occupant c v)) [
  | None ↦ λ e. rw e (spot_found c names v (rest has))
  | Some b ↦ λ e. rw e (spot_found c names v (rest has))
] refl
  where
    rest : Has (name.Spot v) (name.Body i ∷ names) → Has (name.Spot v) names
    rest h = elim (has_cases h) [ inl e ↦ absurd (cc) | inr r ↦ r ]
spot_found c (name.Spot u ∷ names) v has = elim (cases_Bool (node_eq u v)) [
  | inl t ↦ rw t (ap (λ w. Some (occupant c w)) (node_eq-true u v t))
  | inr f ↦ rw f (elim (has_cases has) [
    | inl e ↦ let same : v ≡ u = cc in absurd (both_ways _ f (eq-node_eq u v (sym same)))
    | inr r ↦ spot_found c names v r
  ])
]

-- a node that is not in the zone has none there
pub spot_absent : (c : Config) (names : List CellName) (v : Node) → (Has (name.Spot v) names → ⊥) → spot_in (filter_map (shown_cell c) names) v ≡ None
spot_absent c [] v lacks = refl
spot_absent c (name.Body i ∷ names) v lacks = elim (bot_at c i) as (λ o. bot_at c i ≡ o → spot_in (filter_map (shown_cell c) (name.Body i ∷ names)) v ≡ None) [
  | None ↦ λ e. rw e (spot_absent c names v (λ h. lacks (later h)))
  | Some b ↦ λ e. rw e (spot_absent c names v (λ h. lacks (later h)))
] refl
spot_absent c (name.Spot u ∷ names) v lacks = elim (cases_Bool (node_eq u v)) [
  | inl t ↦ absurd (lacks (subst (λ w. Has (name.Spot w) (name.Spot u ∷ names)) (node_eq-true u v t) here))
  | inr f ↦ rw f (spot_absent c names v (λ h. lacks (later h)))
]

-- for a node that is the amoebot's own or beside one, the cells tell the occupant
pub spot_told : (s : Shown) → IsShown s → (v : Node) → is_beside (bot_of (shown_alone s) s.bot) v ≡ true → unwrap_or (spot_in s.cells v) None ≡ occupant (shown_alone s) v
spot_told s is v beside =
    let c = is.0 in
    let valid = is.1 in
    let own = there_is (bot_at c s.bot) is.2 in
    let b = own.0 in
    let i = s.bot in
    let P : Shown → Type 0 = λ t. is_beside (bot_of (shown_alone t) i) v ≡ true → unwrap_or (spot_in t.cells v) None ≡ occupant (shown_alone t) v in
    subst P is.3 (λ near.
    let beside_own : is_beside b v ≡ true = ap (λ o. is_beside (unwrap_or o blank) v) (sym (alone_own c i b own.1)) ∙ near in
    elim (cases_Bool (is_in c.area v)) [
      | inl inside ↦
          let has = beside_in_zone c.area b v (bot_in_range c valid i b own.1).rot beside_own inside in
          ap (λ o. unwrap_or o None) (spot_found c (zone c i) v (spot_in_zone c i b v own.1 has)) ∙ sym (alone_occupant c i b v valid own.1 has)
      | inr outside ↦
          ap (λ o. unwrap_or o None) (spot_absent c (zone c i) v (λ has. both_ways _ outside (zone_inside c i b v valid own.1 has)))
          ∙ outside_empty (shown_alone (shown c i)) (alone_valid c i valid) v (none_if _ outside)
    ]) beside

-- what the code puts together is what is shown with these cells
pub is_shown_with : (c : Config) (i : ℕ) (a : Extent) (maxes : List ℕ) (cells : List (CellName × Cell)) (walls : List Node) → IsValid c → a ≡ c.area → maxes ≡ c.maxes → walls ≡ walls_read c cells → shown_by a maxes i (node_numbers a walls) cells ≡ shown_with c i cells
is_shown_with c i a maxes cells walls valid e m w = (λ t. shown_by (e t) (m t) i (node_numbers (e t) (w t)) cells) ∙ ap (λ ns. shown_by c.area c.maxes i ns cells) (walls_are c cells valid)

pub is_shown : (c : Config) (i : ℕ) (a : Extent) (maxes : List ℕ) (cells : List (CellName × Cell)) (walls : List Node) → IsValid c → a ≡ c.area → maxes ≡ c.maxes → cells ≡ filter_map (shown_cell c) (zone c i) → walls ≡ walls_read c cells → shown_by a maxes i (node_numbers a walls) cells ≡ shown c i
is_shown c i a maxes cells walls valid e m x w = is_shown_with c i a maxes cells walls valid e m w ∙ ap (shown_with c i) x

-- the nodes of a zone are few
pub few_nodes : (c : Config) (i : ℕ) → IsValid c → length (nodes_in (shown c i).cells) ≤ 10
few_nodes c i valid = omega (arith, length-nodes c (zone c i), length-filter is_spot (zone c i), zone_has_at_most_ten_nodes c i valid)
  where
    length-nodes : (c : Config) (names : List CellName) → length (nodes_in (filter_map (shown_cell c) names)) ≡ length (filter is_spot names)
    length-nodes c [] = refl
    length-nodes c (name.Spot v ∷ names) = ap suc (length-nodes c names)
    length-nodes c (name.Body i ∷ names) = elim (bot_at c i) as (λ o. bot_at c i ≡ o → length (nodes_in (filter_map (shown_cell c) (name.Body i ∷ names))) ≡ length (filter is_spot names)) [
      | None ↦ λ e. rw e (length-nodes c names)
      | Some b ↦ λ e. rw e (length-nodes c names)
    ] refl

-- an amoebot of what is shown alone
pub in_range_if : (s : Shown) → IsShown s → (r : Option (Bor Bot)) (i : ℕ) → option_copied r ≡ bot_at (shown_alone s) i → IfSome r (λ b. IsBotInRange b.now)
in_range_if s is None i e = tt
in_range_if s is (Some b) i e = bot_in_range (shown_alone s) (shown_valid s is) i b.now (sym e)

-- ---- what is shown alone, and the configuration that shows it

pub shown_alone_has_the_zone : ShownAloneHasTheZone
shown_alone_has_the_zone c i j b = (
  (λ e. let only = alone_only c i j b e in (only.0, Contains-from_Has (zone c i) only.1)),
  (λ there. alone_has c i j (Has-from_Contains (zone c i) there.1) ∙ there.0),
)

pub beside_has_the_same_walls : BesideHasTheSameWalls
beside_has_the_same_walls c i b v valid at beside = elim (cases_Bool (is_in c.area v)) [
  | inl inside ↦ alone_wall c i v (spot_in_zone c i b v at (beside_in_zone c.area b v (valid.each i b at).rot beside inside))
  | inr outside ↦ no_wall_outside (shown_alone (shown c i)) v outside ∙ sym (no_wall_outside c v outside)
]

pub beside_holds_the_same : BesideHoldsTheSame
beside_holds_the_same c i b v valid at beside = elim (cases_Bool (is_in c.area v)) [
  | inl inside ↦ alone_occupant c i b v valid at (beside_in_zone c.area b v (valid.each i b at).rot beside inside)
  | inr outside ↦ sym (outside_empty (shown_alone (shown c i)) (alone_valid c i valid) v (none_if _ outside)) ∙ outside_empty c valid v (none_if _ outside)
]
