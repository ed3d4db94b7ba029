-- Where the pairs of an amoebot lead, by places.
use Rattle.std.proofs.Common.{◌≡◌, ◌<◌, ℕ, zero, suc, List, [], ◌∷◌, ◌++◌, length, get_or, set, take, drop, Bool, true, false, ◌&&◌, ◌||◌, not, ◌≤◌, ◌+◌, ◌≢◌, map, replicate, Option, ap, sym, ◌∙◌, refl, inl, inr, arith, append_assoc, append-nil, Some, None}
use Rattle.std.specs.Prelude.{slice_get, if◌then◌else◌}
use Rattle.std.specs.List.{fold, list_any, position}
use Rattle.std.proofs.Math.Bool.{or-true, or-false}
use Rattle.std.proofs.lemmas.Bool.{cases_Bool, cases_lt, lt-ltb, false≢true}
use Rattle.std.proofs.lemmas.List.{length-append, get_or_append_left, get_or_push, map_more, take-append-drop, take_more_set}
use Rattle.std.proofs.lemmas.List.Folds.{list_any-append, list_any_at}
use Rattle.std.proofs.lemmas.List.Quantifiers.{position-Some}
use Rattle.std.proofs.lemmas.List.Sums.{fold-append, fold_more, position_or_len_is, fails_before_first, passes_at_first}
use Rattle.std.proofs.lemmas.Option.{slice_get-get_or}
use Rattle.tri_lattice.specs.declared.node.Node.{Node}
use Rattle.tri_lattice.specs.Lattice.{node_eq}
use Rattle.tri_lattice.specs.Extent.{Extent, is_in}
use Rattle.tri_lattice.proofs.Nodes.{node_eq-true, node_eq-false, node_eq_same, each_direction, step_leaves}
use Rattle.tri_lattice.proofs.Steps.{neighbours_are_distinct}
use Rattle.amoebot_state.specs.declared.bot.Bot.{Bot}
use Rattle.amoebot_state.specs.declared.bot.End.TheVariants.{Head, Tail}
use Rattle.amoebot_state.specs.declared.bot.Port.{Port}
use Rattle.amoebot_state.specs.declared.way.Way.{Way}
use Rattle.amoebot_state.specs.declared.way.Way.TheVariants as way
use Rattle.amoebot_state.specs.Ports.{all_ports, behind, global, local, is_contracted, is_own, is_port, own_nodes, port}
use Rattle.amoebot_state.specs.Storage.{with_new, with_port}
use Rattle.amoebot_state.specs.Zones.{zone_nodes}
use Rattle.amoebot_state.specs.Ways.{node_place, way_among}
use Rattle.amoebot_state.proofs.Members.{Has, has_cases, not_in_none}
use Rattle.amoebot_state.proofs.Occupants.{none_passes}
use Rattle.amoebot_state.proofs.Zones.{node_eq_equiv, ports_taken_up}
use Rattle.amoebot_state.proofs.Directions.{global_below, local_global}

no_any : {A : Type 0} (p : A → Bool) (xs : List A) (d : A) → ((k : ℕ) → k < length xs → p (get_or xs k d) ≡ false) → list_any p xs ≡ false
no_any p [] d fails = refl
no_any p (x ∷ xs) d fails = ap (λ t. t || list_any p xs) (fails zero (omega arith)) ∙ no_any p xs d (λ k lt. fails (suc k) (omega (arith, lt)))

-- the place of a node that is among these is the same where more follow
any_place : (vs : List Node) (v d : Node) → list_any (λ u. node_eq u v) vs ≡ true → node_place vs v < length vs
any_place vs v d any = elim (cases_lt (node_place vs v) (length vs)) [
  | inl lt ↦ lt
  | inr ge ↦ absurd (false≢true (sym (no_any (λ u. node_eq u v) vs d (λ k lt. fails_before_first (λ u. node_eq u v) vs k d (omega (arith, lt, ge)))) ∙ any))
]

place_stays : (vs rest : List Node) (v : Node) → list_any (λ u. node_eq u v) vs ≡ true → node_place (vs ++ rest) v ≡ node_place vs v
place_stays vs rest v any =
    let p : Node → Bool = λ u. node_eq u v in
    let k = node_place vs v in
    let lt = any_place vs v v any in
    let long = length-append vs rest in
    position_or_len_is p (vs ++ rest) k v (omega (arith, lt, long))
    (λ j less. ap p (get_or_append_left vs rest v j (omega (arith, less, lt))) ∙ fails_before_first p vs j v less)
    (λ _. ap p (get_or_append_left vs rest v k lt) ∙ passes_at_first p vs v lt)

-- a node is among those to which it was added
added_any : (vs : List Node) (v : Node) → list_any (λ u. node_eq u v) (with_new node_eq vs v) ≡ true
added_any vs v = elim (cases_Bool (list_any (λ u. node_eq u v) vs)) [
  | inl t ↦ rw t t
  | inr f ↦ rw f (
      list_any-append (λ u. node_eq u v) vs (v ∷ [])
      ∙ ap (λ t. list_any (λ u. node_eq u v) vs || (t || false)) (node_eq_same v)
      ∙ or-true (list_any (λ u. node_eq u v) vs)
      )
]

-- nodes that are added come last
pub port_adds : (a : Extent) (b : Bot) (vs : List Node) (p : Port) → (rest : List Node) × (with_port a b vs p ≡ vs ++ rest)
port_adds a b vs p = elim (cases_Bool (is_port b p)) [
  | inl t ↦ elim (cases_Bool (is_in a (behind b p))) [
    | inl u ↦ elim (cases_Bool (list_any (λ x. node_eq x (behind b p)) vs)) [
      | inl y ↦ rw (t, u, y) ([], sym (append-nil vs))
      | inr n ↦ rw (t, u, n) (behind b p ∷ [], refl)
    ]
    | inr f ↦ rw (t, f) ([], sym (append-nil vs))
  ]
  | inr f ↦ rw f ([], sym (append-nil vs))
]

ports_add : (a : Extent) (b : Bot) (ps : List Port) (vs : List Node) → (rest : List Node) × (fold (with_port a b) vs ps ≡ vs ++ rest)
ports_add a b [] vs = ([], sym (append-nil vs))
ports_add a b (p ∷ ps) vs =
    let (one, first) = port_adds a b vs p in
    let (more, next) = ports_add a b ps (with_port a b vs p) in
    (one ++ more, next ∙ ap (λ us. us ++ more) first ∙ append_assoc vs one more)

-- the nodes that the first few ports add are the first ones of the zone
pub first_nodes : (a : Extent) (b : Bot) (k : ℕ) → (rest : List Node) × (zone_nodes a b ≡ fold (with_port a b) (own_nodes b) (take k all_ports) ++ rest)
first_nodes a b k =
    let (rest, e) = ports_add a b (drop k all_ports) (fold (with_port a b) (own_nodes b) (take k all_ports)) in (
      rest,
      sym (ports_taken_up a b)
          ∙ ap (fold (with_port a b) (own_nodes b)) (sym (take-append-drop k all_ports))
          ∙ fold-append (with_port a b) (own_nodes b) (take k all_ports) (drop k all_ports)
          ∙ e,
    )

-- where a pair leads is known once its node was added
pub way_stays : (a : Extent) (b : Bot) (vs rest : List Node) (p : Port) → way_among a b (with_port a b vs p ++ rest) p ≡ way_among a b (with_port a b vs p) p
way_stays a b vs rest p = elim (cases_Bool (is_port b p)) [
  | inl t ↦ elim (cases_Bool (is_in a (behind b p))) [
    | inl u ↦ rw (t, u) (ap way.To (place_stays (with_new node_eq vs (behind b p)) rest (behind b p) (added_any vs (behind b p))))
    | inr f ↦ rw (t, f) refl
  ]
  | inr f ↦ rw f refl
]

-- the place of a node that is found among these, and of one that is not
pub found_at : (vs : List Node) (v : Node) (k : ℕ) → position (λ u. node_eq u v) vs ≡ Some k → (k < length vs) × (with_new node_eq vs v ≡ vs) × (node_place vs v ≡ k)
found_at vs v k e =
    let p : Node → Bool = λ u. node_eq u v in
    let (lt, passes, before) = position-Some p vs k v e in (
      lt,
      ap (λ t. if t then vs else vs ++ v ∷ []) (list_any_at p vs k v lt passes),
      position_or_len_is p vs k v (omega (arith, lt)) before (λ _. passes),
    )

pub not_found : (vs : List Node) (v : Node) → position (λ u. node_eq u v) vs ≡ None → (with_new node_eq vs v ≡ vs ++ v ∷ []) × (node_place (vs ++ v ∷ []) v ≡ length vs)
not_found vs v e =
    let p : Node → Bool = λ u. node_eq u v in
    let fails = none_passes p vs v e in
    let long = length-append vs (v ∷ []) in (
      ap (λ t. if t then vs else vs ++ v ∷ []) (no_any p vs v fails),
      position_or_len_is p (vs ++ v ∷ []) (length vs) v (omega (arith, long)) (λ k lt. ap p (get_or_append_left vs (v ∷ []) v k lt) ∙ fails k lt) (λ _. ap p (get_or_push vs v v (length vs) refl) ∙ node_eq_same v),
    )

-- a node of the zone is at its place
pub node_at : (vs : List Node) (v : Node) → Has v vs → slice_get vs (node_place vs v) ≡ Some v
node_at vs v has =
    let p : Node → Bool = λ u. node_eq u v in
    let lt = any_place vs v v (has_any vs has) in
    slice_get-get_or vs (node_place vs v) v lt ∙ ap Some (node_eq-true _ _ (passes_at_first p vs v lt))
  where
    has_any : (us : List Node) → Has v us → list_any (λ u. node_eq u v) us ≡ true
    has_any [] h = absurd (not_in_none h)
    has_any (u ∷ us) h = elim (has_cases h) [
      | inl e ↦ ap (λ t. t || list_any (λ x. node_eq x v) us) (ap (λ x. node_eq x v) (sym e) ∙ node_eq_same v)
      | inr r ↦ ap (λ t. node_eq u v || t) (has_any us r) ∙ or-true (node_eq u v)
    ]

-- ---- ports of one end

-- a pair of the head is a port unless it leads to the tail
pub head_port : (b : Bot) (d : ℕ) → d < 6 → is_port b (port Head d) ≡ not (node_eq (behind b (port Head d)) b.tail)
head_port b d lt =
    let v = behind b (port Head d) in
    let leaves : v ≢ b.head = step_leaves b.head (global b d) (global_below b d) in
    ap (λ t. t && (if is_contracted b then true else not (is_own b v))) (lt-ltb d 6 lt)
    ∙ elim (cases_Bool (is_contracted b)) [
      | inl t ↦ rw t (ap not (sym (node_eq-false v b.tail (λ e. leaves (e ∙ sym (node_eq-true b.head b.tail t))))))
      | inr f ↦ rw f (ap not (ap (λ t. t || node_eq b.tail v) (node_eq-false b.head v (λ e. leaves (sym e))) ∙ node_eq_equiv.symm b.tail v))
    ]

-- a pair of the tail of an expanded amoebot is one unless it leads to the head
pub tail_port : (b : Bot) (d : ℕ) → d < 6 → is_contracted b ≡ false → is_port b (port Tail d) ≡ not (node_eq (behind b (port Tail d)) b.head)
tail_port b d lt f =
    let v = behind b (port Tail d) in
    let leaves : v ≢ b.tail = step_leaves b.tail (global b d) (global_below b d) in
    ap (λ t. t && (if is_contracted b then false else not (is_own b v))) (lt-ltb d 6 lt)
    ∙ ap (λ t. if t then false else not (is_own b v)) f
    ∙ ap not (ap (λ t. node_eq b.head v || t) (node_eq-false b.tail v (λ e. leaves (sym e))) ∙ or-false (node_eq b.head v) ∙ node_eq_equiv.symm b.head v)

-- what a pair adds, and where it leads, by whether it is a port and its node lies in the area
pub no_port : (a : Extent) (b : Bot) (vs us : List Node) (p : Port) → is_port b p ≡ false → (with_port a b vs p ≡ vs) × (way_among a b us p ≡ way.NoPort)
no_port a b vs us p f = (rw f refl, rw f refl)

pub port_outside : (a : Extent) (b : Bot) (vs us : List Node) (p : Port) → is_port b p ≡ true → is_in a (behind b p) ≡ false → (with_port a b vs p ≡ vs) × (way_among a b us p ≡ way.Outside)
port_outside a b vs us p t f = (rw (t, f) refl, rw (t, f) refl)

pub port_inside : (a : Extent) (b : Bot) (vs us : List Node) (p : Port) → is_port b p ≡ true → is_in a (behind b p) ≡ true → (with_port a b vs p ≡ with_new node_eq vs (behind b p)) × (way_among a b us p ≡ way.To (node_place us (behind b p)))
port_inside a b vs us p t u = (rw (t, u) refl, rw (t, u) refl)

-- a node that is not among these comes last
pub comes_last : (vs : List Node) (v : Node) → list_any (λ u. node_eq u v) vs ≡ false → (with_new node_eq vs v ≡ vs ++ v ∷ []) × (node_place (vs ++ v ∷ []) v ≡ length vs)
comes_last vs v new = not_found vs v (none (position p vs) refl)
  where
    p : Node → Bool
    p u = node_eq u v

    none : (o : Option ℕ) → position p vs ≡ o → position p vs ≡ None
    none None e = e
    none (Some k) e = let found = position-Some p vs k v e in absurd (false≢true (sym new ∙ list_any_at p vs k v found.0 found.1))

-- a node that is not among these is not among them after a pair that leads to another one
still_new : (a : Extent) (b : Bot) (vs : List Node) (p : Port) (v : Node) → behind b p ≢ v → list_any (λ u. node_eq u v) vs ≡ false → list_any (λ u. node_eq u v) (with_port a b vs p) ≡ false
still_new a b vs p v ne new = elim (cases_Bool (is_port b p)) [
  | inl t ↦ elim (cases_Bool (is_in a (behind b p))) [
    | inl u ↦ elim (cases_Bool (list_any (λ x. node_eq x (behind b p)) vs)) [
      | inl y ↦ rw (t, u, y) new
      | inr n ↦ rw (t, u, n) (
          list_any-append (λ x. node_eq x v) vs (behind b p ∷ [])
          ∙ ap (λ s. s || (node_eq (behind b p) v || false)) new
          ∙ ap (λ s. s || false) (node_eq-false (behind b p) v ne)
          )
    ]
    | inr f ↦ rw (t, f) new
  ]
  | inr f ↦ rw f new
]

-- the first six pairs are the head's, the others the tail's
pub head_pair : (d : ℕ) → d < 6 → get_or all_ports d (port Head 0) ≡ port Head d
head_pair = each_direction (λ d. get_or all_ports d (port Head 0) ≡ port Head d) refl refl refl refl refl refl

pub tail_pair : (d : ℕ) → d < 6 → get_or all_ports (6 + d) (port Head 0) ≡ port Tail d
tail_pair = each_direction (λ d. get_or all_ports (6 + d) (port Head 0) ≡ port Tail d) refl refl refl refl refl refl

-- pairs of the head lead to different nodes
pub pairs_part : (b : Bot) (k d : ℕ) → b.rot < 6 → k < d → d < 6 → behind b (port Head k) ≢ behind b (port Head d)
pairs_part b k d rot less lt same =
    let turned = neighbours_are_distinct b.head (global b k) (global b d) (global_below b k) (global_below b d) same in
    let one : k ≡ d = sym (local_global b k rot (omega (arith, less, lt))) ∙ ap (local b) turned ∙ local_global b d rot lt in
    omega (arith, one, less)

-- so the node behind a port of the head is new, after the own nodes and the pairs before
pub head_new : (a : Extent) (b : Bot) (k d : ℕ) → b.rot < 6 → k ≤ d → d < 6 → node_eq (behind b (port Head d)) b.tail ≡ false → list_any (λ u. node_eq u (behind b (port Head d))) (fold (with_port a b) (own_nodes b) (take k all_ports)) ≡ false
head_new a b zero d rot le lt apart =
    let v = behind b (port Head d) in
    let head = node_eq-false b.head v (λ e. step_leaves b.head (global b d) (global_below b d) (sym e)) in
    let tail = node_eq_equiv.symm b.tail v ∙ apart in
    elim (cases_Bool (is_contracted b)) [
      | inl t ↦ rw t (ap (λ s. s || false) head)
      | inr f ↦ rw f (ap (λ s. s || (node_eq b.tail v || false)) head ∙ ap (λ s. s || false) tail)
    ]
head_new a b (suc k) d rot le lt apart =
    let v = behind b (port Head d) in
    let earlier : k < d = omega (arith, le) in
    let one : suc k ≡ k + 1 = omega arith in
    ap (λ n. list_any (λ u. node_eq u v) (fold (with_port a b) (own_nodes b) (take n all_ports))) one
    ∙ ap (list_any (λ u. node_eq u v)) (fold_more (with_port a b) (own_nodes b) all_ports k (port Head 0) (omega (arith, earlier, lt)))
    ∙ ap (λ p. list_any (λ u. node_eq u v) (with_port a b (fold (with_port a b) (own_nodes b) (take k all_ports)) p)) (head_pair k (omega (arith, earlier, lt)))
    ∙ still_new a b (fold (with_port a b) (own_nodes b) (take k all_ports)) (port Head k) v (pairs_part b k d rot earlier lt) (head_new a b k d rot (omega (arith, earlier)) lt apart)

-- the tail's pairs are no ports of a contracted amoebot
pub tail_adds_none : (a : Extent) (b : Bot) (vs us : List Node) → is_contracted b ≡ true → (fold (with_port a b) vs (drop 6 all_ports) ≡ vs) × (map (way_among a b us) (drop 6 all_ports) ≡ replicate 6 way.NoPort)
tail_adds_none a b vs us t = (rw t refl, rw t refl)

-- what a port of the head adds, and where it leads, after the pairs before
pub head_adds : (a : Extent) (b : Bot) (vs : List Node) (d : ℕ) → b.rot < 6 → d < 6 → vs ≡ fold (with_port a b) (own_nodes b) (take d all_ports) → node_eq (behind b (port Head d)) b.tail ≡ false → is_in a (behind b (port Head d)) ≡ true
    → (with_port a b vs (port Head d) ≡ vs ++ behind b (port Head d) ∷ []) × (way_among a b (vs ++ behind b (port Head d) ∷ []) (port Head d) ≡ way.To (length vs))
head_adds a b vs d rot lt before apart inside =
    let p = port Head d in
    let v = behind b p in
    let is : is_port b p ≡ true = head_port b d lt ∙ ap not apart in
    let last = comes_last vs v (ap (list_any (λ u. node_eq u v)) before ∙ head_new a b d d rot (omega arith) lt apart) in
    ((port_inside a b vs vs p is inside).0 ∙ last.0, (port_inside a b vs (vs ++ v ∷ []) p is inside).1 ∙ ap way.To last.1)

-- ---- one pair after another

-- the nodes after one more pair
pub port_next : (a : Extent) (b : Bot) (k : ℕ) (vs : List Node) (p : Port) → k < 12 → get_or all_ports k (port Head 0) ≡ p → vs ≡ fold (with_port a b) (own_nodes b) (take k all_ports)
    → with_port a b vs p ≡ fold (with_port a b) (own_nodes b) (take (k + 1) all_ports)
port_next a b k vs p lt at before =
    ap (λ us. with_port a b us p) before
    ∙ ap (with_port a b (fold (with_port a b) (own_nodes b) (take k all_ports))) (sym at)
    ∙ sym (fold_more (with_port a b) (own_nodes b) all_ports k (port Head 0) lt)

-- for which there is room where there is for the zone's
pub port_room : (a : Extent) (b : Bot) (k : ℕ) (vs : List Node) (p : Port) → k < 12 → get_or all_ports k (port Head 0) ≡ p → vs ≡ fold (with_port a b) (own_nodes b) (take k all_ports)
    → length (zone_nodes a b) ≤ 10 → length (with_port a b vs p) ≤ 10
port_room a b k vs p lt at before few =
    let (rest, whole) = first_nodes a b (k + 1) in
    omega (arith, few, ap length whole, length-append (fold (with_port a b) (own_nodes b) (take (k + 1) all_ports)) rest, ap length (port_next a b k vs p lt at before))

-- where the pairs lead, with one more
pub ways_next : (a : Extent) (b : Bot) (k : ℕ) (vs us : List Node) (p : Port) (ws : List Way) (w : Way) → k < 12 → get_or all_ports k (port Head 0) ≡ p → vs ≡ fold (with_port a b) (own_nodes b) (take k all_ports)
    → us ≡ with_port a b vs p → w ≡ way_among a b us p → length ws ≡ 12 → take k ws ≡ map (way_among a b (zone_nodes a b)) (take k all_ports)
    → take (k + 1) (set ws k w) ≡ map (way_among a b (zone_nodes a b)) (take (k + 1) all_ports)
ways_next a b k vs us p ws w lt at before added leads long first =
    let f = way_among a b (zone_nodes a b) in
    let (rest, whole) = first_nodes a b (k + 1) in
    let way : w ≡ f (get_or all_ports k (port Head 0)) =
    leads
    ∙ ap (λ xs. way_among a b xs p) added
    ∙ sym (way_stays a b vs rest p)
    ∙ ap (λ xs. way_among a b xs p) (ap (λ xs. xs ++ rest) (port_next a b k vs p lt at before) ∙ sym whole)
    ∙ ap f (sym at) in
    take_more_set ws k w (omega (arith, lt, long))
    ∙ ap (λ xs. xs ++ w ∷ []) first
    ∙ ap (λ x. map f (take k all_ports) ++ x ∷ []) way
    ∙ sym (map_more f all_ports k (port Head 0) lt)
