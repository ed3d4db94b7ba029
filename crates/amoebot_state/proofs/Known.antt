-- What is known of a zone while its cells are read.
use Rattle.std.proofs.Common.{◌≡◌, ◌≢◌, ◌⊎◌, ℕ, zero, suc, List, [], ◌∷◌, ◌++◌, length, map, take, drop, Bool, not, ap, sym, ◌∙◌, refl, subst, inl, inr, arith, append_assoc, append-nil, Option, Some, None, filter, nat_eq}
use Rattle.std.specs.Prelude.{IsSome, is_some, slice_get, unwrap_or, get_or}
use Rattle.std.specs.List.{All, filter_map, fold}
use Rattle.std.specs.Option.{option_map}
use Rattle.std.proofs.lemmas.Bool.{cases_lt}
use Rattle.std.proofs.lemmas.List.{take_all, take-append-drop, length-map, length-append, map-append, take-map}
use Rattle.std.proofs.lemmas.List.Elements.{filter_map-append, filter-append, All-contains, All-head, All-tail}
use Rattle.std.proofs.lemmas.List.Sums.{fold-append}
use Rattle.std.proofs.lemmas.Option.{none-some, same_Some, slice_get-map, slice_get-get_or, slice_get_past}
use Rattle.std.proofs.lemmas.Cmp.{nat_eq_equiv}
use Rattle.tri_lattice.specs.declared.node.Node.{Node}
use Rattle.tri_lattice.specs.Lattice.{node_eq}
use Rattle.tri_lattice.proofs.Nodes.{node_eq_same}
use Rattle.amoebot_state.specs.declared.bot.Bot.{Bot}
use Rattle.amoebot_state.specs.declared.cell.CellName.{CellName}
use Rattle.amoebot_state.specs.declared.cell.CellName.TheVariants as name
use Rattle.amoebot_state.specs.declared.cell.Cell.{Cell}
use Rattle.amoebot_state.specs.declared.cell.Cell.TheVariants as cell
use Rattle.amoebot_state.specs.Pairs.{Pairs, cell_of, cell_value, body_in}
use Rattle.amoebot_state.specs.Configs.{Config, bot_at, occupant, value}
use Rattle.amoebot_state.specs.Zones.{distinct, zone_nodes, others, zone_of, zone, shown, shown_cell, shown_alone}
use Rattle.amoebot_state.specs.Storage.{with_new}
use Rattle.amoebot_state.specs.Known.{IsFront, read_on, known_from, known_zone, next_cell}
use Rattle.amoebot_state.specs.Laws.{ShownListsZone, ShownHoldsValues, KnownIsFront, NextIsInZone, FrontGrows, NextIsNew, KnownGrowsAtItsEnd, WholeZoneIsShown, FrontStands, NoneIsOutsideTheZone}
use Rattle.amoebot_state.proofs.Options.{there_is, is_some-option_map}
use Rattle.amoebot_state.proofs.Distinct.{without, taken_up, taken_from_none}
use Rattle.amoebot_state.proofs.Fronts.{front_rest, front_take, front_takes, front_kept, front_map, front_behind, front_left, front_next, front_push, Has-from_slice_get, slice_get_left, take-filter_map, map-filter_map, filter_map-none}
use Rattle.amoebot_state.proofs.ShownAlone.{body_shown, alone_has, alone_only}
use Rattle.amoebot_state.proofs.Zones.{zone_is}
use Rattle.amoebot_state.proofs.Members.{Has, here, later, has_cases, not_in_none, map_has, Has-map, Has-append_left, Has-append_right, Has-append_cases, filter_map-same, filter_map_has, All-from_Has, Contains-from_Has, Has-from_Contains}
use Rattle.amoebot_state.proofs.Occupants.{occupant_covers}
use Rattle.amoebot_state.proofs.Once.{Once, once_parts, Once-distinct, zone_once, same_spot, same_body, spot_is_no_body}
use Rattle.amoebot_state.proofs.Owns.{covered}
use Rattle.amoebot_state.proofs.Shows.{spot_found, spot_absent}
use Rattle.amoebot_state.proofs.Zones.{others_occupy}

-- ---- what is shown lists the zone

-- each cell of a zone holds something
cell_there : (c : Config) (i : ℕ) (b : Bot) (n : CellName) → bot_at c i ≡ Some b → Has n (zone c i) → (x : Cell) × (value c n ≡ Some x)
cell_there c i b (name.Spot v) at has = (cell.Spot (occupant c v), refl)
cell_there c i b (name.Body j) at has = elim (has_cases (subst (Has (name.Body j)) (zone_is c i b at) has)) [
  | inl e ↦ (cell.Body b, ap (option_map cell.Body) (ap (bot_at c) (same_body j i e) ∙ at))
  | inr r ↦ elim (Has-append_cases (map name.Spot (zone_nodes c.area b)) r) [
    | inl s ↦ let found = map_has name.Spot (zone_nodes c.area b) s in absurd (spot_is_no_body found.0 j (sym found.2))
    | inr t ↦
        let (k, has_k, e) = map_has name.Body (others (occupant c) i (zone_nodes c.area b)) t in
        let by = others_occupy (occupant c) i (zone_nodes c.area b) k has_k in
        let (other, is, own) = covered (bot_at c k) by.0 (occupant_covers c by.0 k by.2) in
        (cell.Body other, ap (option_map cell.Body) (ap (bot_at c) (same_body j k e) ∙ is))
  ]
]

pair_there : (c : Config) (i : ℕ) (b : Bot) (n : CellName) → bot_at c i ≡ Some b → Has n (zone c i) → (p : CellName × Cell) × (shown_cell c n ≡ Some p) × (cell_of p ≡ n)
pair_there c i b n at has = let (x, e) = cell_there c i b n at has in ((n, x), ap (option_map (λ y. (n, y))) e, refl)

no_zone : (c : Config) (i : ℕ) → bot_at c i ≡ None → zone c i ≡ []
no_zone c i e = rw e refl

pub shown_lists_zone : ShownListsZone
shown_lists_zone c i = elim (bot_at c i) as (λ o. bot_at c i ≡ o → map cell_of (shown c i).cells ≡ zone c i) [
  | None ↦ λ e. ap (λ ns. map cell_of (filter_map (shown_cell c) ns)) (no_zone c i e) ∙ sym (no_zone c i e)
  | Some b ↦ λ at. map-filter_map cell_of (shown_cell c) (zone c i) (λ n has. pair_there c i b n at has)
] refl

holds_value : (c : Config) (n : CellName) (p : CellName × Cell) → shown_cell c n ≡ Some p → value c (cell_of p) ≡ Some (cell_value p)
holds_value c n p = elim (value c n) as (λ o. value c n ≡ o → shown_cell c n ≡ Some p → value c (cell_of p) ≡ Some (cell_value p)) [
  | None ↦ λ e s. absurd (none-some p (sym (ap (option_map (λ x. (n, x))) e) ∙ s))
  | Some x ↦ λ e s. let is : (n, x) ≡ p = same_Some (n, x) p (sym (ap (option_map (λ y. (n, y))) e) ∙ s) in ap (λ (q : CellName × Cell). value c q.0) (sym is) ∙ e ∙ ap (λ (q : CellName × Cell). Some q.1) is
] refl

pub shown_holds_values : ShownHoldsValues
shown_holds_values c i = All-from_Has (λ (p : CellName × Cell). value c (cell_of p) ≡ Some (cell_value p)) (shown c i).cells (λ p has. let found = filter_map_has (shown_cell c) (zone c i) has in holds_value c found.0 p found.2)

-- ---- what is known after the body and the first m further cells were read

-- the cells of a zone behind the body
abbrev pub behind_body : Config → ℕ → Bot → List CellName
behind_body c i b = map name.Spot (zone_nodes c.area b) ++ map name.Body (others (occupant c) i (zone_nodes c.area b))

-- the zone as far as the first m nodes tell it
abbrev pub told_by : Config → ℕ → Bot → ℕ → List CellName
told_by c i b m = name.Body i ∷ (map name.Spot (zone_nodes c.area b) ++ map name.Body (others (occupant c) i (take m (zone_nodes c.area b))))

take-append : {A : Type 0} (m : ℕ) (xs ys : List A) → (k : ℕ) × (take m (xs ++ ys) ≡ take m xs ++ take k ys)
take-append zero xs ys = (zero, refl)
take-append (suc m) [] ys = (suc m, refl)
take-append (suc m) (x ∷ xs) ys = let (k, e) = take-append m xs ys in (k, ap (λ zs. x ∷ zs) e)

-- the first m cells behind the body: nodes, then bodies
read_parts : (c : Config) (i : ℕ) (b : Bot) (m : ℕ) → (js : List ℕ) × (take m (behind_body c i b) ≡ map name.Spot (take m (zone_nodes c.area b)) ++ map name.Body js)
read_parts c i b m =
    let spots = map name.Spot (zone_nodes c.area b) in
    let ids = others (occupant c) i (zone_nodes c.area b) in
    let (k, e) = take-append m spots (map name.Body ids) in
    (take k ids, e ∙ ap (λ xs. xs ++ take k (map name.Body ids)) (take-map name.Spot m (zone_nodes c.area b)) ∙ ap (λ xs. map name.Spot (take m (zone_nodes c.area b)) ++ xs) (take-map name.Body k ids))

-- a node among them is one of the first m
spot_was_read : (c : Config) (i : ℕ) (b : Bot) (m : ℕ) (v : Node) → Has (name.Spot v) (name.Body i ∷ take m (behind_body c i b)) → Has v (take m (zone_nodes c.area b))
spot_was_read c i b m v has = elim (has_cases has) [
  | inl e ↦ absurd (spot_is_no_body v i e)
  | inr r ↦
      let (js, e) = read_parts c i b m in
      elim (Has-append_cases (map name.Spot (take m (zone_nodes c.area b))) (subst (Has (name.Spot v)) e r)) [
        | inl s ↦ let (u, has_u, same) = map_has name.Spot (take m (zone_nodes c.area b)) s in subst (λ w. Has w (take m (zone_nodes c.area b))) (sym (same_spot v u same)) has_u
        | inr t ↦ let found = map_has name.Body js t in absurd (spot_is_no_body v found.0 found.2)
      ]
]

spot_is_read : (c : Config) (i : ℕ) (b : Bot) (m : ℕ) (v : Node) → Has v (take m (zone_nodes c.area b)) → Has (name.Spot v) (name.Body i ∷ take m (behind_body c i b))
spot_is_read c i b m v has =
    let (js, e) = read_parts c i b m in
    later (subst (Has (name.Spot v)) (sym e) (Has-append_left (map name.Body js) (Has-map name.Spot has)))

Once-apart : {A : Type 0} (xs : List A) {ys : List A} → Once (xs ++ ys) → (x : A) → Has x xs → Has x ys → ⊥
Once-apart [] once x left right = not_in_none left
Once-apart {A} (z ∷ xs) {ys} once x left right =
    let (new, rest) = once_parts once in
    elim (has_cases left) [
      | inl e ↦ new (Has-append_right xs (subst (λ w. Has w ys) e right))
      | inr h ↦ Once-apart xs rest x h right
    ]

known_from_read : (c : Config) (i : ℕ) (b : Bot) (m : ℕ) → bot_at c i ≡ Some b → known_zone c.area i (filter_map (shown_cell c) (name.Body i ∷ take m (behind_body c i b))) ≡ told_by c i b m
known_from_read c i b m at =
    let names = name.Body i ∷ take m (behind_body c i b) in
    let cells = filter_map (shown_cell c) names in
    let vs = zone_nodes c.area b in
    let front = take m vs in
    let rest = drop m vs in
    let on = read_on cells in
    let read : (v : Node) → Has v front → on v ≡ occupant c v = λ v has. ap (λ o. unwrap_or o None) (spot_found c names v (spot_is_read c i b m v has)) in
    let unread : (v : Node) → Has v rest → on v ≡ None = λ v has. ap (λ o. unwrap_or o None) (spot_absent c names v (λ h. Once-apart front (subst Once (sym (take-append-drop m vs)) (Once-distinct node_eq node_eq_same _)) v (spot_was_read c i b m v h) has)) in
    let who : filter_map on vs ≡ filter_map (occupant c) front =
    sym (ap (filter_map on) (take-append-drop m vs))
    ∙ filter_map-append on front rest
    ∙ ap (λ js. js ++ filter_map on rest) (filter_map-same on (occupant c) front read)
    ∙ ap (λ js. filter_map (occupant c) front ++ js) (filter_map-none on rest unread)
    ∙ append-nil (filter_map (occupant c) front) in
    ap (known_from c.area i cells) (body_shown c names i here ∙ at)
    ∙ ap (λ js. name.Body i ∷ (map name.Spot vs ++ map name.Body (distinct nat_eq (filter (λ j. not (nat_eq j i)) js)))) who

-- ---- the laws

-- cells that are a front of what is shown: none, or the body and the first few behind it
pub read_cases : (c : Config) (i : ℕ) (b : Bot) (cells : Pairs) → bot_at c i ≡ Some b → IsFront cells (shown c i).cells → (cells ≡ []) ⊎ ((m : ℕ) × (length cells ≡ suc m) × (cells ≡ filter_map (shown_cell c) (name.Body i ∷ take m (behind_body c i b))))
read_cases c i b [] at front = inl refl
read_cases c i b (p ∷ cells) at front = inr (
  length cells,
  refl,
  front ∙ take-filter_map (shown_cell c) (suc (length cells)) (zone c i) (λ n has. let found = pair_there c i b n at has in (found.0, found.1)) ∙ ap (λ ns. filter_map (shown_cell c) (take (suc (length cells)) ns)) (zone_is c i b at),
)

-- the zone as the cells that were read tell it: the body alone, or as far as the nodes that were read tell it
pub known_cases : (c : Config) (i : ℕ) (b : Bot) (cells : Pairs) → bot_at c i ≡ Some b → IsFront cells (shown c i).cells → ((length cells ≡ 0) × (known_zone c.area i cells ≡ name.Body i ∷ [])) ⊎ ((m : ℕ) × (length cells ≡ suc m) × (known_zone c.area i cells ≡ told_by c i b m))
known_cases c i b cells at front = elim (read_cases c i b cells at front) [
  | inl e ↦ inl (ap length e, ap (known_zone c.area i) e)
  | inr (m, long, e) ↦ inr (m, long, ap (known_zone c.area i) e ∙ known_from_read c i b m at)
]

-- who else is on a front of nodes is a front of who else is on them
pub others_longer : (on : Node → Option ℕ) (i : ℕ) (xs zs : List Node) → (js : List ℕ) × (others on i (xs ++ zs) ≡ others on i xs ++ js)
others_longer on i xs zs =
    let passes : ℕ → Bool = λ j. not (nat_eq j i) in
    let us = filter passes (filter_map on xs) in
    let ws = filter passes (filter_map on zs) in (
      without nat_eq (distinct nat_eq us) (distinct nat_eq ws),
      ap (λ js. distinct nat_eq (filter passes js)) (filter_map-append on xs zs)
          ∙ ap (distinct nat_eq) (filter-append passes (filter_map on xs) (filter_map on zs))
          ∙ sym (taken_from_none nat_eq_equiv (us ++ ws))
          ∙ fold-append (with_new nat_eq) [] us ws
          ∙ ap (λ js. fold (with_new nat_eq) js ws) (taken_from_none nat_eq_equiv us)
          ∙ taken_up nat_eq_equiv ws (distinct nat_eq us),
    )

front_told : (c : Config) (i : ℕ) (b : Bot) (vs ws : List Node) → IsFront vs ws → IsFront (name.Body i ∷ (map name.Spot (zone_nodes c.area b) ++ map name.Body (others (occupant c) i vs))) (name.Body i ∷ (map name.Spot (zone_nodes c.area b) ++ map name.Body (others (occupant c) i ws)))
front_told c i b vs ws front =
    front_behind (name.Body i ∷ map name.Spot (zone_nodes c.area b)) (map name.Body (others (occupant c) i vs)) (map name.Body (others (occupant c) i ws))
    (front_map name.Body (others (occupant c) i vs) (others (occupant c) i ws) (front_kept (others (occupant c) i) (others_longer (occupant c) i) vs ws front))

pub known_is_front : KnownIsFront
known_is_front c i cells is front =
    let (b, at) = there_is (bot_at c i) is in
    let vs = zone_nodes c.area b in
    subst (IsFront (known_zone c.area i cells)) (sym (zone_is c i b at)) (elim (known_cases c i b cells at front) [
      | inl (none, e) ↦ subst (λ ns. IsFront ns (zone_of (occupant c) i vs)) (sym e) refl
      | inr (m, long, e) ↦ subst (λ ns. IsFront ns (zone_of (occupant c) i vs)) (sym e) (front_told c i b (take m vs) vs (front_take m vs))
    ])

pub next_is_in_zone : NextIsInZone
next_is_in_zone c i cells is front =
    let (b, at) = there_is (bot_at c i) is in
    let vs = zone_nodes c.area b in
    elim (known_cases c i b cells at front) [
      | inl (none, e) ↦
          ap (λ k. slice_get (known_zone c.area i cells) k) none ∙ ap (λ ns. slice_get ns 0) e
          ∙ sym (ap (slice_get (zone c i)) none ∙ ap (λ ns. slice_get ns 0) (zone_is c i b at))
      | inr (m, long, e) ↦
          ap (λ k. slice_get (known_zone c.area i cells) k) long ∙ ap (λ ns. slice_get ns (suc m)) e
          ∙ alike m vs
          ∙ sym (ap (slice_get (zone c i)) long ∙ ap (λ ns. slice_get ns (suc m)) (zone_is c i b at))
    ]
  where
    alike : (m : ℕ) (vs : List Node) → slice_get (map name.Spot vs ++ map name.Body (others (occupant c) i (take m vs))) m ≡ slice_get (map name.Spot vs ++ map name.Body (others (occupant c) i vs)) m
    alike m vs = elim (cases_lt m (length vs)) [
      | inl lt ↦
          let long = length-map vs name.Spot in
          slice_get_left (map name.Spot vs) (map name.Body (others (occupant c) i (take m vs))) m (omega (arith, long, lt)) ∙ sym (slice_get_left (map name.Spot vs) (map name.Body (others (occupant c) i vs)) m (omega (arith, long, lt)))
      | inr ge ↦ ap (λ us. slice_get (map name.Spot vs ++ map name.Body (others (occupant c) i us)) m) (take_all m vs (omega (arith, ge)))
    ]

-- what is shown has the pair of each cell of the zone, at the same place
pub shown_at : (c : Config) (i k : ℕ) (n : CellName) → slice_get (zone c i) k ≡ Some n → (x : Cell) × (value c n ≡ Some x) × (slice_get (shown c i).cells k ≡ Some (n, x))
shown_at c i k n e =
    let named : option_map cell_of (slice_get (shown c i).cells k) ≡ Some n = sym (slice_get-map cell_of (shown c i).cells k) ∙ ap (λ ns. slice_get ns k) (shown_lists_zone c i) ∙ e in
    elim (slice_get (shown c i).cells k) as (λ o. slice_get (shown c i).cells k ≡ o → (x : Cell) × (value c n ≡ Some x) × (slice_get (shown c i).cells k ≡ Some (n, x))) [
      | None ↦ λ none. absurd (none-some n (sym (ap (option_map cell_of) none) ∙ named))
      | Some p ↦ λ at.
          let same : cell_of p ≡ n = same_Some (cell_of p) n (sym (ap (option_map cell_of) at) ∙ named) in
          let holds = All-contains (λ (q : CellName × Cell). value c (cell_of q) ≡ Some (cell_value q)) (shown c i).cells p (shown_holds_values c i) (Contains-from_Has (shown c i).cells (Has-from_slice_get (shown c i).cells k p at)) in
          (cell_value p, ap (value c) (sym same) ∙ holds, at ∙ ap (λ m. Some (m, cell_value p)) same)
    ] refl

pub front_grows : FrontGrows
front_grows c i cells n is front e =
    let (x, holds, at) = shown_at c i (length cells) n (sym (next_is_in_zone c i cells is front) ∙ e) in
    (x, holds, front_push cells (shown c i).cells (n, x) front at)

pub next_is_new : NextIsNew
next_is_new c i cells n is front e =
    let (x, holds, grown) = front_grows c i cells n is front e in
    let read = map cell_of cells in
    let rest = map cell_of (drop (length (cells ++ (n, x) ∷ [])) (shown c i).cells) in
    let whole : zone c i ≡ read ++ (n ∷ rest) =
    sym (shown_lists_zone c i)
    ∙ ap (map cell_of) (front_rest (cells ++ (n, x) ∷ []) (shown c i).cells grown)
    ∙ map-append cell_of (cells ++ (n, x) ∷ []) (drop (length (cells ++ (n, x) ∷ [])) (shown c i).cells)
    ∙ ap (λ ns. ns ++ rest) (map-append cell_of cells ((n, x) ∷ []))
    ∙ append_assoc read (n ∷ []) rest in
    All-from_Has (λ (p : CellName × Cell). cell_of p ≢ n) cells (λ p has same. Once-apart read (subst Once whole (zone_once c i)) n (subst (λ m. Has m read) same (Has-map cell_of has)) here)

pub known_grows_at_its_end : KnownGrowsAtItsEnd
known_grows_at_its_end c i cells further is front =
    let (b, at) = there_is (bot_at c i) is in
    let vs = zone_nodes c.area b in
    let all = cells ++ further in
    let joined = length-append cells further in
    elim (known_cases c i b cells at (front_left cells further (shown c i).cells front)) [
      | inl (none, e) ↦ subst (λ ns. IsFront ns (known_zone c.area i all)) (sym e) (begins (body_in all i) all)
      | inr (m, long, e) ↦ elim (known_cases c i b all at front) [
        | inl (none, f) ↦ absurd (omega (arith, none, long, joined))
        | inr (n, longer, f) ↦ subst (λ ns. IsFront ns (known_zone c.area i all)) (sym e) (subst (IsFront (told_by c i b m)) (sym f) (front_told c i b (take m vs) (take n vs) (front_takes m n vs (omega (arith, long, longer, joined)))))
      ]
    ]
  where
    begins : (o : Option Bot) (ps : Pairs) → IsFront (name.Body i ∷ []) (known_from c.area i ps o)
    begins None ps = refl
    begins (Some b) ps = refl

length_shown : (c : Config) (i : ℕ) → length (shown c i).cells ≡ length (zone c i)
length_shown c i = sym (length-map (shown c i).cells cell_of) ∙ ap length (shown_lists_zone c i)

pub whole_zone_is_shown : WholeZoneIsShown
whole_zone_is_shown c i cells is front =
    let next = next_is_in_zone c i cells is front in
    let many = length_shown c i in (
      λ none. elim (cases_lt (length cells) (length (zone c i))) [
        | inl lt ↦ absurd (none-some (get_or (zone c i) (length cells) (name.Body i)) (sym (sym next ∙ none) ∙ slice_get-get_or (zone c i) (length cells) (name.Body i) lt))
        | inr ge ↦ front ∙ take_all (length cells) (shown c i).cells (omega (arith, ge, many))
      ],
      λ e. next ∙ slice_get_past (zone c i) (length cells) (omega (arith, many, ap length e)),
    )

-- cells that are read further on are those of the other configuration too
stands_further : (c d : Config) (i : ℕ) (done rest : Pairs) → d.area ≡ c.area → IsSome (bot_at c i) → IsSome (bot_at d i) → IsFront (done ++ rest) (shown c i).cells → All (λ (p : CellName × Cell). value d (cell_of p) ≡ Some (cell_value p)) rest → IsFront done (shown d i).cells → IsFront (done ++ rest) (shown d i).cells
stands_further c d i done [] area own_c own_d front holds stands = subst (λ ps. IsFront ps (shown d i).cells) (sym (append-nil done)) stands
stands_further c d i done (p ∷ rest) area own_c own_d front holds stands =
    let P : CellName × Cell → Type 0 = λ q. value d (cell_of q) ≡ Some (cell_value q) in
    let at : slice_get (shown c i).cells (length done) ≡ Some p = front_next done p rest (shown c i).cells front in
    let named : slice_get (zone c i) (length done) ≡ Some (cell_of p) = ap (λ ns. slice_get ns (length done)) (sym (shown_lists_zone c i)) ∙ slice_get-map cell_of (shown c i).cells (length done) ∙ ap (option_map cell_of) at in
    let next : next_cell d.area i done ≡ Some (cell_of p) = ap (λ a. next_cell a i done) area ∙ next_is_in_zone c i done own_c (front_left done (p ∷ rest) (shown c i).cells front) ∙ named in
    let (x, now, grown) = front_grows d i done (cell_of p) own_d stands next in
    let same : x ≡ cell_value p = same_Some x (cell_value p) (sym now ∙ All-head P p rest holds) in
    let longer : IsFront (done ++ p ∷ []) (shown d i).cells = subst (λ y. IsFront (done ++ (cell_of p, y) ∷ []) (shown d i).cells) same grown in
    let regroup = append_assoc done (p ∷ []) rest in
    subst (λ ps. IsFront ps (shown d i).cells) regroup (stands_further c d i (done ++ p ∷ []) rest area own_c own_d (subst (λ ps. IsFront ps (shown c i).cells) (sym regroup) front) (All-tail P p rest holds) longer)

pub front_stands : FrontStands
front_stands c d i [] area front holds = refl
front_stands c d i (p ∷ rest) area front holds =
    let P : CellName × Cell → Type 0 = λ q. value d (cell_of q) ≡ Some (cell_value q) in
    elim (bot_at c i) as (λ o. bot_at c i ≡ o → IsFront (p ∷ rest) (shown d i).cells) [
      | None ↦ λ e. absurd (no_front p rest (front ∙ ap (λ ns. take (suc (length rest)) (filter_map (shown_cell c) ns)) (no_zone c i e)))
      | Some b ↦ λ at.
          let own_c : IsSome (bot_at c i) = ap is_some at in
          let first : name.Body i ≡ cell_of p = same_Some (name.Body i) (cell_of p) (ap (λ ns. slice_get ns 0) (sym (zone_is c i b at) ∙ sym (shown_lists_zone c i)) ∙ slice_get-map cell_of (shown c i).cells 0 ∙ ap (option_map cell_of) (front_next [] p rest (shown c i).cells front)) in
          let own_d : IsSome (bot_at d i) = sym (is_some-option_map cell.Body (bot_at d i)) ∙ ap is_some (ap (value d) first ∙ All-head P p rest holds) in
          stands_further c d i [] (p ∷ rest) area own_c own_d front holds refl
    ] refl
  where
    no_front : {A : Type 0} (x : A) (xs : List A) → x ∷ xs ≡ [] → ⊥
    no_front x xs e = cc

-- ---- which amoebots are not shown

not_absent : (c : Config) (i j : ℕ) → Has (name.Body j) (zone c i) → bot_at (shown_alone (shown c i)) j ≡ None → ⊥
not_absent c i j has none = elim (bot_at c i) as (λ o. bot_at c i ≡ o → ⊥) [
  | None ↦ λ e. not_in_none (subst (Has (name.Body j)) (no_zone c i e) has)
  | Some b ↦ λ e. let (x, is) = cell_there c i b (name.Body j) e has in none-some x (sym (ap (option_map cell.Body) (sym (alone_has c i j has) ∙ none)) ∙ is)
] refl

pub none_is_outside_the_zone : NoneIsOutsideTheZone
none_is_outside_the_zone c i j = (
  (λ none listed. not_absent c i j (Has-from_Contains (zone c i) listed) none),
  (λ outside. elim (bot_at (shown_alone (shown c i)) j) as (λ o. bot_at (shown_alone (shown c i)) j ≡ o → bot_at (shown_alone (shown c i)) j ≡ None) [
    | None ↦ λ e. e
    | Some b ↦ λ e. absurd (outside (Contains-from_Has (zone c i) (alone_only c i j b e).1))
  ] refl),
)
