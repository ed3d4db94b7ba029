-- What is known of a zone after one more cell was read.
use Rattle.std.proofs.Common.{◌≡◌, ◌≢◌, ◌<◌, ◌≤◌, ◌⊎◌, ℕ, zero, suc, List, [], ◌∷◌, ◌++◌, length, map, take, drop, true, false, ap, sym, ◌∙◌, refl, subst, inl, inr, arith, Option, Some, None}
use Rattle.std.specs.Prelude.{IfSome, slice_get, get_or, if◌then◌else◌}
use Rattle.std.specs.List.{fold}
use Rattle.std.specs.Option.{option_map}
use Rattle.std.proofs.Math.Seq.{take-suc}
use Rattle.std.proofs.lemmas.Bool.{cases_lt}
use Rattle.std.proofs.lemmas.List.{take_all, length-append, length-map, take-append-drop}
use Rattle.std.proofs.lemmas.List.Elements.{All-contains}
use Rattle.std.proofs.lemmas.List.Sums.{fold-append}
use Rattle.std.proofs.lemmas.Option.{none-some, same_Some, slice_get-map, slice_get-get_or}
use Rattle.tri_lattice.specs.declared.node.Node.{Node}
use Rattle.tri_lattice.specs.Extent.{Extent}
use Rattle.amoebot_state.specs.declared.bot.Bot.{Bot}
use Rattle.amoebot_state.specs.declared.cell.CellName.{CellName}
use Rattle.amoebot_state.specs.declared.cell.CellName.TheVariants as name
use Rattle.amoebot_state.specs.declared.cell.Cell.{Cell}
use Rattle.amoebot_state.specs.declared.cell.Cell.TheVariants as cell
use Rattle.amoebot_state.specs.Ports.{own_nodes, is_contracted}
use Rattle.amoebot_state.specs.Pairs.{Pairs, cell_of, cell_value, body_in}
use Rattle.amoebot_state.specs.Configs.{Config, IsValid, bot_at, occupant, value}
use Rattle.amoebot_state.specs.Refusals.{IsBotInRange}
use Rattle.amoebot_state.specs.Zones.{zone_nodes, others, zone, shown}
use Rattle.amoebot_state.specs.Storage.{with_other}
use Rattle.amoebot_state.specs.Known.{IsFront, AreReadInOrder, known_zone}
use Rattle.amoebot_state.proofs.Counts.{own_then_few, at_most_ten_nodes, at_most_eight_others}
use Rattle.amoebot_state.proofs.Fronts.{front_next, front_left, slice_get_left, Has-from_slice_get}
use Rattle.amoebot_state.proofs.Known.{read_cases, behind_body, known_cases, told_by, others_longer, shown_lists_zone, shown_holds_values}
use Rattle.amoebot_state.proofs.Members.{Contains-from_Has, here}
use Rattle.amoebot_state.proofs.Occupants.{bot_in_range}
use Rattle.amoebot_state.proofs.Options.{there_is}
use Rattle.amoebot_state.proofs.ShownAlone.{body_shown}
use Rattle.amoebot_state.proofs.Zones.{zone_is, others_taken_up}

-- a zone that is known, by its parts
abbrev pub parts : ℕ → List Node → List ℕ → List CellName
parts i vs js = name.Body i ∷ (map name.Spot vs ++ map name.Body js)

-- the names determine the parts
same_bodies : (js ks : List ℕ) → map name.Body js ≡ map name.Body ks → js ≡ ks
same_bodies [] [] e = refl
same_bodies [] (k ∷ ks) e = absurd (cc)
same_bodies (j ∷ js) [] e = absurd (cc)
same_bodies (j ∷ js) (k ∷ ks) e =
    let first : j ≡ k = cc in
    let rest : map name.Body js ≡ map name.Body ks = cc in
    let more = same_bodies js ks rest in
    λ t. first t ∷ more t

same_parts : (vs us : List Node) (js ks : List ℕ) → map name.Spot vs ++ map name.Body js ≡ map name.Spot us ++ map name.Body ks → (vs ≡ us) × (js ≡ ks)
same_parts [] [] js ks e = (refl, same_bodies js ks e)
same_parts [] (u ∷ us) [] ks e = absurd (cc)
same_parts [] (u ∷ us) (j ∷ js) ks e = absurd (cc)
same_parts (v ∷ vs) [] js [] e = absurd (cc)
same_parts (v ∷ vs) [] js (k ∷ ks) e = absurd (cc)
same_parts (v ∷ vs) (u ∷ us) js ks e =
    let first : v ≡ u = cc in
    let rest : map name.Spot vs ++ map name.Body js ≡ map name.Spot us ++ map name.Body ks = cc in
    let more = same_parts vs us js ks rest in
    (λ t. first t ∷ more.0 t, more.1)

-- what the cell was, and what is known with it
pub record IsOwnBody (a : Extent) (i : ℕ) (vs : List Node) (js : List ℕ) (x : Cell) (own : Option Bot) (new : List CellName) : Type 0 where
  pub bot : Bot
  pub holds : x ≡ cell.Body bot
  pub nodes : vs ≡ []
  pub bodies : js ≡ []
  pub in_range : IsBotInRange bot
  pub few : length (zone_nodes a bot) ≤ 10
  pub read : own ≡ Some bot
  pub now : new ≡ parts i (zone_nodes a bot) []

pub record IsOnNode (i : ℕ) (vs : List Node) (js : List ℕ) (x : Cell) (new : List CellName) : Type 0 where
  pub who : Option ℕ
  pub holds : x ≡ cell.Spot who
  pub few : length js ≤ 8
  pub now : new ≡ parts i vs (with_other i js who)

pub record IsOtherBody (i : ℕ) (vs : List Node) (js : List ℕ) (x : Cell) (new : List CellName) : Type 0 where
  pub bot : Bot
  pub holds : x ≡ cell.Body bot
  pub some : 0 < length vs
  pub now : new ≡ parts i vs js

-- the own amoebot as it was read before and after
abbrev pub Grown : Extent → ℕ → List Node → List ℕ → Cell → Option Bot → Option Bot → List CellName → Type 0
Grown a i vs js x was own new = IsOwnBody a i vs js x own new ⊎ ((IsOnNode i vs js x new ⊎ IsOtherBody i vs js x new) × (own ≡ was))

-- the cell that was read last is the next one of the zone, and has its value
next_one : (c : Config) (i : ℕ) (cells : Pairs) (n : CellName) (x : Cell) → IsFront (cells ++ (n, x) ∷ []) (shown c i).cells → (slice_get (zone c i) (length cells) ≡ Some n) × (value c n ≡ Some x)
next_one c i cells n x front =
    let at = front_next cells (n, x) [] (shown c i).cells front in (
      ap (λ ns. slice_get ns (length cells)) (sym (shown_lists_zone c i)) ∙ slice_get-map cell_of (shown c i).cells (length cells) ∙ ap (option_map cell_of) at,
      All-contains (λ (p : CellName × Cell). value c (cell_of p) ≡ Some (cell_value p)) (shown c i).cells (n, x) (shown_holds_values c i) (Contains-from_Has (shown c i).cells (Has-from_slice_get (shown c i).cells (length cells) (n, x) at)),
    )

-- an element behind a part
slice_get_right : {A : Type 0} (xs ys : List A) (k : ℕ) → length xs ≤ k → (j : ℕ) × (slice_get (xs ++ ys) k ≡ slice_get ys j)
slice_get_right [] ys k le = (k, refl)
slice_get_right (x ∷ xs) ys zero le = absurd (omega (arith, le))
slice_get_right (x ∷ xs) ys (suc k) le = slice_get_right xs ys k (omega (arith, le))

-- a body that there is
body_value : (o : Option Bot) (x : Cell) → option_map cell.Body o ≡ Some x → (b : Bot) × (x ≡ cell.Body b) × (o ≡ Some b)
body_value None x e = absurd (none-some x e)
body_value (Some b) x e = (b, sym (same_Some (cell.Body b) x e), refl)

-- a zone has a node
some_own : (b : Bot) → 0 < length (own_nodes b)
some_own b = elim (is_contracted b) as (λ t. 0 < length (if t then b.head ∷ [] else b.head ∷ b.tail ∷ [])) [ true ↦ omega arith | false ↦ omega arith ]

some_zone_nodes : (a : Extent) (b : Bot) → 0 < length (zone_nodes a b)
some_zone_nodes a b =
    let (rest, whole, _) = own_then_few a b in
    omega (arith, ap length whole, length-append (own_nodes b) rest, some_own b)

module _ (c : Config) (i : ℕ) (b : Bot) (valid : IsValid c) (at : bot_at c i ≡ Some b) where
  abbrev nodes : List Node
  nodes = zone_nodes c.area b

  abbrev on : Node → Option ℕ
  on = occupant c

  few_nodes : length nodes ≤ 10
  few_nodes = let fits = valid.each i b at in at_most_ten_nodes c.area b fits.rot fits.close

  -- the first nodes have no more others than all
  few_others : (m : ℕ) → length (others on i (take m nodes)) ≤ 8
  few_others m =
      let (js, e) = others_longer on i (take m nodes) (drop m nodes) in
      let whole = ap (λ vs. length (others on i vs)) (sym (take-append-drop m nodes)) in
      omega (arith, ap length e, length-append (others on i (take m nodes)) js, whole, at_most_eight_others c i b valid at)

  one_more : (m : ℕ) (v : Node) → take (suc m) nodes ≡ take m nodes ++ v ∷ [] → others on i (take (suc m) nodes) ≡ with_other i (others on i (take m nodes)) (on v)
  one_more m v e =
      let add : List ℕ → Node → List ℕ = λ js u. with_other i js (on u) in
      sym (others_taken_up on i (take (suc m) nodes))
      ∙ ap (fold add []) e
      ∙ fold-append add [] (take m nodes) (v ∷ [])
      ∙ ap (λ js. with_other i js (on v)) (others_taken_up on i (take m nodes))

  -- the first cell
  own_body : (n : CellName) (x : Cell) → Some (name.Body i) ≡ Some n → value c n ≡ Some x → x ≡ cell.Body b
  own_body n x is holds =
      let held : Some (cell.Body b) ≡ Some x = sym (ap (option_map cell.Body) at) ∙ ap (value c) (same_Some (name.Body i) n is) ∙ holds in
      sym (same_Some (cell.Body b) x held)

  -- a cell behind the body
  behind : (m : ℕ) (n : CellName) (x : Cell) → slice_get (map name.Spot nodes ++ map name.Body (others on i nodes)) m ≡ Some n → value c n ≡ Some x → IsOnNode i nodes (others on i (take m nodes)) x (told_by c i b (suc m)) ⊎ IsOtherBody i nodes (others on i (take m nodes)) x (told_by c i b (suc m))
  behind m n x is holds = elim (cases_lt m (length nodes)) [
    | inl lt ↦
        let v : Node = get_or nodes m b.head in
        let read : slice_get (map name.Spot nodes) m ≡ Some (name.Spot v) = slice_get-map name.Spot nodes m ∙ ap (option_map name.Spot) (slice_get-get_or nodes m b.head lt) in
        let spot : name.Spot v ≡ n = same_Some (name.Spot v) n (sym read ∙ sym (slice_get_left (map name.Spot nodes) (map name.Body (others on i nodes)) m (many lt)) ∙ is) in
        inl (record {
          who = on v;
          holds = sym (same_Some (cell.Spot (on v)) x (ap (value c) spot ∙ holds));
          few = few_others m;
          now = ap (parts i nodes) (one_more m v (take-suc nodes m b.head lt));
        })
    | inr ge ↦
        let (j, e) = slice_get_right (map name.Spot nodes) (map name.Body (others on i nodes)) m (all_before ge) in
        let (k, body) = some_body (slice_get (others on i nodes) j) (sym (slice_get-map name.Body (others on i nodes) j) ∙ sym e ∙ is) in
        let (other, is_body, _) = body_value (bot_at c k) x (ap (value c) body ∙ holds) in
        inr (record {
          bot = other;
          holds = is_body;
          some = some_nodes;
          now = ap (λ vs. parts i nodes (others on i vs)) (take_all (suc m) nodes (omega (arith, ge)) ∙ sym (take_all m nodes ge));
        })
  ]
    where
      many : m < length nodes → m < length (map name.Spot nodes)
      many lt = omega (arith, lt, length-map nodes name.Spot)

      all_before : length nodes ≤ m → length (map name.Spot nodes) ≤ m
      all_before ge = omega (arith, ge, length-map nodes name.Spot)

      some_body : (o : Option ℕ) → option_map name.Body o ≡ Some n → (k : ℕ) × (name.Body k ≡ n)
      some_body None e = absurd (none-some n e)
      some_body (Some k) e = (k, same_Some (name.Body k) n e)

      some_nodes : 0 < length nodes
      some_nodes = some_zone_nodes c.area b

  -- the own amoebot is among the cells that were read
  own_among : (m : ℕ) (cells : Pairs) → length cells ≡ suc m → IsFront cells (shown c i).cells → body_in cells i ≡ Some b
  own_among m cells long front = elim (read_cases c i b cells at front) [
    | inl none ↦ absurd (omega (arith, long, ap length none))
    | inr (k, _, e) ↦ ap (λ ps. body_in ps i) e ∙ body_shown c (name.Body i ∷ take k (behind_body c i b)) i here ∙ at
  ]

  grown_here : (own : ℕ) (vs : List Node) (js : List ℕ) (cells : Pairs) (n : CellName) (x : Cell) → parts own vs js ≡ known_zone c.area i cells → IsFront (cells ++ (n, x) ∷ []) (shown c i).cells → Grown c.area own vs js x (body_in cells i) (body_in (cells ++ (n, x) ∷ []) i) (known_zone c.area i (cells ++ (n, x) ∷ []))
  grown_here own vs js cells n x was front =
      let more = cells ++ (n, x) ∷ [] in
      let (next, holds) = next_one c i cells n x front in
      let long = length-append cells ((n, x) ∷ []) in
      let listed : slice_get (parts i nodes (others on i nodes)) (length cells) ≡ Some n = ap (λ ns. slice_get ns (length cells)) (sym (zone_is c i b at)) ∙ next in
      elim (known_cases c i b more at front) [
        | inl (none, _) ↦ absurd (omega (arith, none, long))
        | inr (m, longer, now) ↦ elim (known_cases c i b cells at (front_left cells ((n, x) ∷ []) (shown c i).cells front)) [
          | inl (none, before) ↦
              let (own_is, none_yet) = split own vs js i [] [] (was ∙ before) in
              let first : m ≡ 0 = omega (arith, longer, long, none) in
              inl (record {
                bot = b;
                holds = own_body n x (ap (slice_get (parts i nodes (others on i nodes))) (sym none) ∙ listed) holds;
                nodes = none_yet.0;
                bodies = none_yet.1;
                in_range = bot_in_range c valid i b at;
                few = few_nodes;
                read = own_among m more longer front;
                now = now ∙ ap (told_by c i b) first ∙ ap (λ k. parts k nodes []) (sym own_is);
              })
          | inr (k, short, before) ↦
              let (own_is, same) = split own vs js i nodes (others on i (take k nodes)) (was ∙ before) in
              let step : m ≡ suc k = omega (arith, longer, long, short) in
              let told : told_by c i b (suc k) ≡ known_zone c.area i more = sym (now ∙ ap (told_by c i b) step) in
              let there : slice_get (map name.Spot nodes ++ map name.Body (others on i nodes)) k ≡ Some n = ap (slice_get (parts i nodes (others on i nodes))) (sym short) ∙ listed in
              let same_own = own_among m more longer front ∙ sym (own_among k cells short (front_left cells ((n, x) ∷ []) (shown c i).cells front)) in
              elim (behind k n x there holds) [
                | inl node ↦ inr (inl (subst5 (λ o us ks ns. IsOnNode o us ks x ns) own_is same.0 same.1 told node), same_own)
                | inr body ↦ inr (inr (subst5 (λ o us ks ns. IsOtherBody o us ks x ns) own_is same.0 same.1 told body), same_own)
              ]
        ]
      ]
    where
      split : (own : ℕ) (vs : List Node) (js : List ℕ) (i : ℕ) (us : List Node) (ks : List ℕ) → parts own vs js ≡ parts i us ks → (own ≡ i) × ((vs ≡ us) × (js ≡ ks))
      split own vs js i us ks e =
          let first : own ≡ i = cc in
          let rest : map name.Spot vs ++ map name.Body js ≡ map name.Spot us ++ map name.Body ks = cc in
          (first, same_parts vs us js ks rest)

      subst5 : (P : ℕ → List Node → List ℕ → List CellName → Type 0) {o k : ℕ} {vs us : List Node} {js ks : List ℕ} {ms ns : List CellName} → o ≡ k → vs ≡ us → js ≡ ks → ms ≡ ns → P k us ks ms → P o vs js ns
      subst5 P {o} {k} {vs} {us} {js} {ks} {ms} {ns} e f g h p = subst (λ z. P z vs js ns) (sym e) (subst (λ z. P k z js ns) (sym f) (subst (λ z. P k us z ns) (sym g) (subst (λ z. P k us ks z) h p)))

pub grown : (a : Extent) (i own : ℕ) (vs : List Node) (js : List ℕ) (cells : Pairs) (n : CellName) (x : Cell) → parts own vs js ≡ known_zone a i cells → AreReadInOrder a i (cells ++ (n, x) ∷ []) → Grown a own vs js x (body_in cells i) (body_in (cells ++ (n, x) ∷ []) i) (known_zone a i (cells ++ (n, x) ∷ []))
grown a i own vs js cells n x was read =
    let (b, at) = there_is (bot_at read.config i) read.there in
    subst (λ e. parts own vs js ≡ known_zone e i cells → Grown e own vs js x (body_in cells i) (body_in (cells ++ (n, x) ∷ []) i) (known_zone e i (cells ++ (n, x) ∷ []))) read.area
    (λ known. grown_here read.config i b read.valid at own vs js cells n x known read.front) was

-- the same by what the code finds: a body where no node is known, a body where one is, and a node
module _ (a : Extent) (i : ℕ) (vs : List Node) (js : List ℕ) (x : Cell) (was own : Option Bot) (new : List CellName) (is : Grown a i vs js x was own new) where
  pub own_read : (b : Bot) → x ≡ cell.Body b → length vs ≡ 0 → IsBotInRange b × (length (zone_nodes a b) ≤ 10) × (new ≡ parts i (zone_nodes a b) js) × (own ≡ Some b)
  own_read b holds none = elim is [
    | inl first ↦
        let same : first.bot ≡ b = let e = first.holds in cc in
        (subst IsBotInRange same first.in_range, subst (λ d. length (zone_nodes a d) ≤ 10) same first.few, first.now ∙ (λ t. parts i (zone_nodes a (same t)) (sym first.bodies t)), first.read ∙ ap Some same)
    | inr (more, _) ↦ elim more [
      | inl node ↦ let e = node.holds in absurd (cc)
      | inr other ↦ absurd (omega (arith, none, other.some))
    ]
  ]

  pub other_read : (b : Bot) → x ≡ cell.Body b → length vs ≢ 0 → (new ≡ parts i vs js) × (own ≡ was)
  other_read b holds some = elim is [
    | inl first ↦ absurd (some (ap length first.nodes))
    | inr (more, stays) ↦ elim more [
      | inl node ↦ let e = node.holds in absurd (cc)
      | inr other ↦ (other.now, stays)
    ]
  ]

  pub node_read : (o : Option ℕ) → x ≡ cell.Spot o → (length js ≤ 8) × (new ≡ parts i vs (with_other i js o)) × (own ≡ was)
  node_read o holds = elim is [
    | inl first ↦ let e = first.holds in absurd (cc)
    | inr (more, stays) ↦ elim more [
      | inl node ↦ let same : node.who ≡ o = let e = node.holds in cc in (node.few, node.now ∙ ap (λ w. parts i vs (with_other i js w)) same, stays)
      | inr other ↦ let e = other.holds in absurd (cc)
    ]
  ]

-- ---- what follows for cells that were read in order

-- the first of them were
pub read_before : (a : Extent) (i : ℕ) (cells further : Pairs) → AreReadInOrder a i (cells ++ further) → AreReadInOrder a i cells
read_before a i cells further read = record { config = read.config; valid = read.valid; area = read.area; there = read.there; front = front_left cells further (shown read.config i).cells read.front }

-- the own amoebot among them is one that may stand
pub read_in_range : (a : Extent) (i : ℕ) (cells : Pairs) → AreReadInOrder a i cells → IfSome (body_in cells i) IsBotInRange
read_in_range a i cells read =
    let c = read.config in
    let (b, at) = there_is (bot_at c i) read.there in
    elim (read_cases c i b cells at read.front) [
      | inl none ↦ subst (λ ps. IfSome (body_in ps i) IsBotInRange) (sym none) tt
      | inr (m, long, e) ↦ subst (λ o. IfSome o IsBotInRange) (sym (ap (λ ps. body_in ps i) e ∙ body_shown c (name.Body i ∷ take m (behind_body c i b)) i here ∙ at)) (bot_in_range c read.valid i b at)
    ]
