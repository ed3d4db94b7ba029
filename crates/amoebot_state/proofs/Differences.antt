-- That a difference leads from the old configuration to the new one.
use Rattle.std.proofs.Common.{◌≡◌, ◌≢◌, ◌<◌, ◌≤◌, ◌+◌, ◌*◌, ℕ, zero, suc, length, map, Bool, true, false, ap, sym, ◌∙◌, refl, subst, inl, inr, arith, Option, Some, None}
use Rattle.std.specs.Prelude.{is_some, if◌then◌else◌, unwrap_or}
use Rattle.std.specs.List.{All, range_with_len}
use Rattle.std.specs.Option.{option_map}
use Rattle.std.proofs.lemmas.Bool.{cases_Bool, cases_eq, cases_lt, both_ways}
use Rattle.std.proofs.lemmas.List.{get_or_past}
use Rattle.std.proofs.lemmas.List.Elements.{All-contains}
use Rattle.std.proofs.lemmas.List.Kept.{AllPairs-from_increasing}
use Rattle.std.proofs.lemmas.Option.{none-some, same_Some}
use Rattle.tri_lattice.specs.declared.node.Node.{Node}
use Rattle.tri_lattice.specs.Extent.{Extent, index_of, node_at}
use Rattle.tri_lattice.proofs.Boxes.{node_at_index_of, index_of_node_at, index_below}
use Rattle.amoebot_state.specs.declared.cell.CellName.{CellName}
use Rattle.amoebot_state.specs.declared.cell.CellName.TheVariants as name
use Rattle.amoebot_state.specs.declared.cell.Cell.{Cell}
use Rattle.amoebot_state.specs.declared.cell.Cell.TheVariants as cell
use Rattle.amoebot_state.specs.Pairs.{Pairs, cell_of, cell_value}
use Rattle.amoebot_state.specs.Configs.{Config, IsValid, bot_at, value}
use Rattle.amoebot_state.specs.Patches.{HasSameIds, IsOrdered, IsPatched, same_value, changed, all_cells, plain_diff, rank}
use Rattle.amoebot_state.proofs.Members.{Has, here, later, Has-append_left, Has-append_right, Has-map, map_has, Has-filter_map, filter_map_has, All-from_Has, Contains-from_Has, Has-from_Contains}
use Rattle.amoebot_state.proofs.Options.{none_if, is_some-option_map}
use Rattle.amoebot_state.proofs.Occupants.{outside_empty}
use Rattle.amoebot_state.proofs.Patched.{patch_lists_what_differs}
use Rattle.amoebot_state.proofs.RisingLists.{Rising, Rising-append, Rising-map, Rising-filter_map, Rising-weaker, Rising-range, Rising-from_increasing, Rising-same, range_below}
use Rattle.amoebot_state.proofs.Values.{value_same, value_same-true}

pub Has-range_with_len : (a n k : ℕ) → a ≤ k → k < a + n → Has k (range_with_len a n)
Has-range_with_len a zero k low high = absurd (omega arith)
Has-range_with_len a (suc n) k low high = elim (cases_eq k a) [
  | inl e ↦ subst (λ j. Has j (range_with_len a (suc n))) (sym e) here
  | inr ne ↦ later (Has-range_with_len (a + 1) n k (omega arith) (omega arith))
]

-- each node of the area is one of all cells
spot_in_all : (c : Config) (v : Node) (k : ℕ) → index_of c.area v ≡ Some k → Has (name.Spot v) (all_cells c)
spot_in_all c v k e =
    let at = node_at_index_of c.area v k e in
    Has-append_left (map name.Body (range_with_len 0 (length c.bots))) (subst (λ u. Has (name.Spot u) (map (λ j. name.Spot (node_at c.area j)) (range_with_len 0 (c.area.w * c.area.h)))) at.1 (Has-map (λ j. name.Spot (node_at c.area j)) (Has-range_with_len 0 (c.area.w * c.area.h) k (omega arith) (omega (arith, at.0)))))

-- and so is the body of each id
body_in_all : (c : Config) (i : ℕ) → i < length c.bots → Has (name.Body i) (all_cells c)
body_in_all c i lt = Has-append_right (map (λ k. name.Spot (node_at c.area k)) (range_with_len 0 (c.area.w * c.area.h))) (Has-map name.Body (Has-range_with_len 0 (length c.bots) i (omega arith) (omega arith)))

-- what it tells that a cell changed
told : (same : Bool) (n : CellName) (y : Option Cell) (p : CellName × Cell) → (if same then None else option_map (λ z. (n, z)) y) ≡ Some p → (same ≡ false) × (n ≡ p.0) × (y ≡ Some p.1)
told true n y p e = absurd (none-some p e)
told false n None p e = absurd (none-some p e)
told false n (Some z) p e = let is = same_Some (n, z) p e in (refl, ap (λ (q : CellName × Cell). q.0) is, ap (λ (q : CellName × Cell). Some q.1) is)

changed_differs : (old new : Config) (n : CellName) (p : CellName × Cell) → changed old new n ≡ Some p → (value new (cell_of p) ≡ Some (cell_value p)) × (value old (cell_of p) ≢ Some (cell_value p))
changed_differs old new n p e =
    let is = told (same_value (value old n) (value new n)) n (value new n) p e in
    (ap (value new) (sym is.1) ∙ is.2, λ was. both_ways _ is.0 (ap (same_value (value old n)) (is.2 ∙ sym (ap (value old) is.1 ∙ was)) ∙ value_same (value old n)))

pub listed_differs : (old new : Config) (p : CellName × Cell) → Has p (plain_diff old new) → (value new (cell_of p) ≡ Some (cell_value p)) × (value old (cell_of p) ≢ Some (cell_value p))
listed_differs old new p has = let found = filter_map_has (changed old new) (all_cells old) has in changed_differs old new found.0 p found.2

-- one of all cells that the difference does not list stays
stays : (old new : Config) (n : CellName) → Has n (all_cells old) → is_some (value new n) ≡ is_some (value old n) → All (λ (p : CellName × Cell). cell_of p ≢ n) (plain_diff old new) → value new n ≡ value old n
stays old new n has alike none = elim (cases_Bool (same_value (value old n) (value new n))) [
  | inl t ↦ sym (value_same-true (value old n) (value new n) t)
  | inr f ↦ elim (value new n) as (λ o. value new n ≡ o → value new n ≡ value old n) [
    | None ↦ λ e. e ∙ sym (none_if (value old n) (sym alike ∙ ap is_some e))
    | Some x ↦ λ e.
        let now : changed old new n ≡ Some (n, x) = ap (λ t. if t then None else option_map (λ z. (n, z)) (value new n)) f ∙ ap (option_map (λ z. (n, z))) e in
        absurd (All-contains (λ (p : CellName × Cell). cell_of p ≢ n) (plain_diff old new) (n, x) none (Contains-from_Has (plain_diff old new) (Has-filter_map (changed old new) (all_cells old) has now)) refl)
  ] refl
]

-- with the same ids each cell has a value in both configurations, or in none
pub has_value : (old new : Config) → HasSameIds old new → (n : CellName) → is_some (value new n) ≡ is_some (value old n)
has_value old new same (name.Spot v) = refl
has_value old new same (name.Body i) = is_some-option_map cell.Body (bot_at new i) ∙ same.ids i ∙ sym (is_some-option_map cell.Body (bot_at old i))

-- a cell that the difference does not list stays: what is none of all cells holds nothing in either
kept : (old new : Config) → IsValid old → IsValid new → HasSameIds old new → (n : CellName) → All (λ (p : CellName × Cell). cell_of p ≢ n) (plain_diff old new) → value new n ≡ value old n
kept old new was is same (name.Spot v) none = elim (index_of old.area v) as (λ o. index_of old.area v ≡ o → value new (name.Spot v) ≡ value old (name.Spot v)) [
  | None ↦ λ e. ap (λ o. Some (cell.Spot o)) (sym (outside_empty new is v (ap (λ (c : Config). index_of c.area v) same.rest ∙ e)) ∙ outside_empty old was v e)
  | Some k ↦ λ e. stays old new (name.Spot v) (spot_in_all old v k e) refl none
] refl
kept old new was is same (name.Body i) none = elim (cases_lt i (length old.bots)) [
  | inl lt ↦ stays old new (name.Body i) (body_in_all old i lt) (has_value old new same (name.Body i)) none
  | inr ge ↦ ap (option_map cell.Body) (get_or_past new.bots i None (omega (arith, same.size, ge)) ∙ sym (get_or_past old.bots i None (omega arith)))
]

pub plain_leads : (old new : Config) → IsValid old → IsValid new → HasSameIds old new → IsPatched old (plain_diff old new) new × All (λ (p : CellName × Cell). value old (cell_of p) ≢ Some (cell_value p)) (plain_diff old new)
plain_leads old new was is same =
    let Given : CellName × Cell → Type 0 = λ p. value new (cell_of p) ≡ Some (cell_value p) in
    let Differs : CellName × Cell → Type 0 = λ p. value old (cell_of p) ≢ Some (cell_value p) in (
      record {
        valid = is;
        same = same;
        given = All-from_Has Given (plain_diff old new) (λ p has. (listed_differs old new p has).0);
        kept = kept old new was is same;
      },
      All-from_Has Differs (plain_diff old new) (λ p has. (listed_differs old new p has).1),
    )

-- ---- the difference is the one ordered patch that leads from the old configuration to the new one and lists what differs

-- a number for each cell: the nodes of the area by their own, then the bodies
abbrev place_in : Extent → CellName → ℕ
place_in a (name.Spot v) = unwrap_or (index_of a v) 0
place_in a (name.Body i) = a.w * a.h + i

abbrev pair_place : Extent → CellName × Cell → ℕ
pair_place a p = place_in a (cell_of p)

-- all cells stand in the order of these numbers
all_cells_rise : (c : Config) → Rising (place_in c.area) (all_cells c)
all_cells_rise c =
    let n = c.area.w * c.area.h in
    let spot : ℕ → CellName = λ k. name.Spot (node_at c.area k) in
    let at : (k : ℕ) → Has k (range_with_len 0 n) → place_in c.area (spot k) ≡ k = λ k has. ap (λ o. unwrap_or o 0) (index_of_node_at c.area k (omega (arith, (range_below 0 n k has).1))) in
    let bodies : Rising (λ i. n + i) (range_with_len 0 (length c.bots)) = Rising-weaker (λ i. i) (λ i. n + i) (λ i j hi hj lt. omega (arith, lt)) (Rising-range 0 (length c.bots)) in
    Rising-append (place_in c.area)
    (Rising-map (λ k. k) (place_in c.area) spot at (Rising-range 0 n))
    (Rising-map (λ i. n + i) (place_in c.area) name.Body (λ i has. refl) bodies)
    (λ x y hx hy.
    let (k, hk, ex) = map_has spot (range_with_len 0 n) hx in
    let (i, hi, ey) = map_has name.Body (range_with_len 0 (length c.bots)) hy in
    let below = (range_below 0 n k hk).1 in
    omega (arith, below, ap (place_in c.area) ex, at k hk, ap (place_in c.area) ey))

-- and so does the difference
diff_rises : (old new : Config) → Rising (pair_place old.area) (plain_diff old new)
diff_rises old new = Rising-filter_map (place_in old.area) (pair_place old.area) (changed old new) (λ n p e. ap (place_in old.area) (sym (told (same_value (value old n) (value new n)) n (value new n) p e).1)) (all_cells_rise old)

-- a node whose value differs lies in the area
differs_inside : (old new : Config) → IsValid old → IsValid new → new.area ≡ old.area → (v : Node) → value new (name.Spot v) ≢ value old (name.Spot v) → (k : ℕ) × (index_of old.area v ≡ Some k)
differs_inside old new was is area v differs = elim (index_of old.area v) as (λ o. index_of old.area v ≡ o → (k : ℕ) × (index_of old.area v ≡ Some k)) [
  | None ↦ λ e. absurd (differs (ap (λ o. Some (cell.Spot o)) (sym (outside_empty new is v (ap (λ (a : Extent). index_of a v) area ∙ e)) ∙ outside_empty old was v e)))
  | Some k ↦ λ e. (k, e)
] refl

-- of two cells whose values differ, the one that a patch has to list before the other has the lower number
before_is_lower : (old new : Config) → IsValid old → IsValid new → new.area ≡ old.area → (m n : CellName) → value new m ≢ value old m → rank m < rank n → place_in old.area m < place_in old.area n
before_is_lower old new was is area (name.Spot u) (name.Spot v) differs lt = absurd (omega (arith, lt))
before_is_lower old new was is area (name.Spot u) (name.Body j) differs lt =
    let (k, e) = differs_inside old new was is area u differs in
    omega (arith, index_below old.area u k e, ap (λ o. unwrap_or o 0) e)
before_is_lower old new was is area (name.Body i) (name.Spot v) differs lt = absurd (omega (arith, lt))
before_is_lower old new was is area (name.Body i) (name.Body j) differs lt = omega (arith, lt)

-- a cell whose value differs is one of all cells
differs_listed : (old new : Config) → IsValid old → IsValid new → new.area ≡ old.area → length new.bots ≡ length old.bots → (n : CellName) (x : Cell) → value new n ≡ Some x → value new n ≢ value old n → Has n (all_cells old)
differs_listed old new was is area size (name.Spot v) x e differs =
    let (k, at) = differs_inside old new was is area v differs in
    spot_in_all old v k at
differs_listed old new was is area size (name.Body i) x e differs = elim (cases_lt i (length old.bots)) [
  | inl lt ↦ body_in_all old i lt
  | inr ge ↦ absurd (none-some x (sym (ap (option_map cell.Body) (get_or_past new.bots i None (omega arith))) ∙ e))
]

pub ordered_is_plain_diff : (old new : Config) (ps : Pairs) → IsValid old → IsPatched old ps new → IsOrdered ps → All (λ (p : CellName × Cell). value old (cell_of p) ≢ Some (cell_value p)) ps → ps ≡ plain_diff old new
ordered_is_plain_diff old new ps was patched ordered differ =
    let area : new.area ≡ old.area = ap (λ (c : Config). c.area) patched.same.rest in
    let given : (p : CellName × Cell) → Has p ps → value new (cell_of p) ≡ Some (cell_value p) = λ p has. All-contains (λ (q : CellName × Cell). value new (cell_of q) ≡ Some (cell_value q)) ps p patched.given (Contains-from_Has ps has) in
    let differs : (p : CellName × Cell) → Has p ps → value new (cell_of p) ≢ value old (cell_of p) = λ p has e. All-contains (λ (q : CellName × Cell). value old (cell_of q) ≢ Some (cell_value q)) ps p differ (Contains-from_Has ps has) (sym e ∙ given p has) in
    let rises : Rising (pair_place old.area) ps = Rising-weaker (λ (p : CellName × Cell). rank (cell_of p)) (pair_place old.area) (λ p q hp hq lt. before_is_lower old new was patched.valid area (cell_of p) (cell_of q) (differs p hp) lt) (Rising-from_increasing (λ (p : CellName × Cell). rank (cell_of p)) ps (AllPairs-from_increasing (map (λ (p : CellName × Cell). rank (cell_of p)) ps) ordered)) in
    Rising-same (pair_place old.area) rises (diff_rises old new)
    (λ p has. Has-filter_map (changed old new) (all_cells old) (differs_listed old new was patched.valid area patched.same.size (cell_of p) (cell_value p) (given p has) (differs p has)) (changed_is old new p (given p has) (differs p has)))
    (λ p has.
    let (now, not_was) = listed_differs old new p has in
    let (q, hq, e) = map_has cell_of ps (Has-from_Contains (map cell_of ps) (patch_lists_what_differs old new ps patched (cell_of p) (λ e. not_was (sym e ∙ now)))) in
    let same : cell_value q ≡ cell_value p = same_Some (cell_value q) (cell_value p) (sym (given q hq) ∙ ap (value new) (sym e) ∙ now) in
    let P : CellName × Cell → Type 0 = λ r. Has r ps in
    subst P (λ i. (sym e i, same i)) hq)
  where
    changed_is : (old new : Config) (p : CellName × Cell) → value new (cell_of p) ≡ Some (cell_value p) → value new (cell_of p) ≢ value old (cell_of p) → changed old new (cell_of p) ≡ Some p
    changed_is old new p now differs = elim (cases_Bool (same_value (value old (cell_of p)) (value new (cell_of p)))) [
      | inl t ↦ absurd (differs (sym (value_same-true _ _ t)))
      | inr f ↦ ap (λ t. if t then None else option_map (λ z. (cell_of p, z)) (value new (cell_of p))) f ∙ ap (option_map (λ z. (cell_of p, z))) now
    ]
