-- A difference with at most one node is in the order of a patch.
use Rattle.std.proofs.Common.{◌≡◌, ◌+◌, ◌*◌, ℕ, List, ◌++◌, length, map, Bool, true, false, ap, sym, ◌∙◌, refl, subst, arith, Option, Some, None}
use Rattle.std.specs.Prelude.{if◌then◌else◌, unwrap_or}
use Rattle.std.specs.List.{filter_map, range_with_len}
use Rattle.std.specs.Option.{option_map}
use Rattle.std.proofs.lemmas.List.Elements.{filter_map-append}
use Rattle.std.proofs.lemmas.Option.{none-some, same_Some}
use Rattle.tri_lattice.specs.declared.node.Node.{Node}
use Rattle.tri_lattice.specs.Extent.{Extent, index_of, node_at}
use Rattle.tri_lattice.proofs.Boxes.{index_of_node_at}
use Rattle.amoebot_state.specs.declared.cell.CellName.{CellName}
use Rattle.amoebot_state.specs.declared.cell.CellName.TheVariants as name
use Rattle.amoebot_state.specs.declared.cell.Cell.{Cell}
use Rattle.amoebot_state.specs.Pairs.{cell_of}
use Rattle.amoebot_state.specs.Configs.{Config, value}
use Rattle.amoebot_state.specs.Patches.{IsOrdered, plain_diff, changed, rank, same_value}
use Rattle.amoebot_state.proofs.Members.{Has, map_has, filter_map_has, Has-append_left}
use Rattle.amoebot_state.proofs.RisingLists.{Rising, Rising-append, Rising-map, Rising-filter_map, Rising-weaker, Rising-range, increasing-from_Rising, range_below}

-- what a listed pair tells
pair_told : (old new : Config) (n : CellName) (p : CellName × Cell) → changed old new n ≡ Some p → n ≡ cell_of p
pair_told old new n p = by (same_value (value old n) (value new n)) (value new n)
  where
    by : (same : Bool) (y : Option Cell) → (if same then None else option_map (λ z. (n, z)) y) ≡ Some p → n ≡ cell_of p
    by true y e = absurd (none-some p e)
    by false None e = absurd (none-some p e)
    by false (Some z) e = ap (λ (q : CellName × Cell). cell_of q) (same_Some (n, z) p e)

-- the number of a node; no matter for bodies
abbrev place : Extent → CellName → ℕ
place a (name.Spot v) = unwrap_or (index_of a v) 0
place a (name.Body i) = 0

module _ (old new : Config) (node : Node) (one : (p : CellName × Cell) (v : Node) → Has p (plain_diff old new) → cell_of p ≡ name.Spot v → v ≡ node) where
  abbrev size : ℕ
  size = old.area.w * old.area.h

  abbrev spot : ℕ → CellName
  spot k = name.Spot (node_at old.area k)

  abbrev spots : List (CellName × Cell)
  spots = filter_map (changed old new) (map spot (range_with_len 0 size))

  abbrev bodies : List (CellName × Cell)
  bodies = filter_map (changed old new) (map name.Body (range_with_len 0 (length old.bots)))

  parts : plain_diff old new ≡ spots ++ bodies
  parts = filter_map-append (changed old new) (map spot (range_with_len 0 size)) (map name.Body (range_with_len 0 (length old.bots)))

  abbrev key : CellName × Cell → ℕ
  key p = rank (cell_of p)

  spot_told : (p : CellName × Cell) → Has p spots → (v : Node) × (cell_of p ≡ name.Spot v)
  spot_told p has =
      let (n, hn, e) = filter_map_has (changed old new) (map spot (range_with_len 0 size)) has in
      let (k, hk, is) = map_has spot (range_with_len 0 size) hn in
      (node_at old.area k, sym (pair_told old new n p e) ∙ is)

  body_told : (p : CellName × Cell) → Has p bodies → (j : ℕ) × (cell_of p ≡ name.Body j)
  body_told p has =
      let (n, hn, e) = filter_map_has (changed old new) (map name.Body (range_with_len 0 (length old.bots))) has in
      let (j, hj, is) = map_has name.Body (range_with_len 0 (length old.bots)) hn in
      (j, sym (pair_told old new n p e) ∙ is)

  spots_rise : Rising (λ p. place old.area (cell_of p)) spots
  spots_rise = Rising-filter_map (place old.area) (λ p. place old.area (cell_of p)) (changed old new) (λ n p e. ap (place old.area) (sym (pair_told old new n p e)))
      (Rising-map (λ k. k) (place old.area) spot (λ k has. ap (λ o. unwrap_or o 0) (index_of_node_at old.area k (omega (arith, (range_below 0 size k has).1)))) (Rising-range 0 size))

  -- no two nodes are listed
  at_most_one : Rising key spots
  at_most_one = Rising-weaker (λ p. place old.area (cell_of p)) key (λ p q hp hq lt.
      let (u, eu) = spot_told p hp in
      let (v, ev) = spot_told q hq in
      let all : (r : CellName × Cell) → Has r spots → Has r (plain_diff old new) = λ r has. subst (Has r) (sym parts) (Has-append_left bodies has) in
      let same : place old.area (cell_of p) ≡ place old.area (cell_of q) = ap (place old.area) (eu ∙ ap name.Spot (one p u (all p hp) eu ∙ sym (one q v (all q hq) ev)) ∙ sym ev) in
      absurd (omega (arith, lt, same))) spots_rise

  bodies_rise : Rising key bodies
  bodies_rise = Rising-filter_map rank key (changed old new) (λ n p e. ap rank (sym (pair_told old new n p e)))
      (Rising-map (λ i. i + 1) rank name.Body (λ i has. refl) (Rising-weaker (λ i. i) (λ i. i + 1) (λ i j hi hj lt. omega (arith, lt)) (Rising-range 0 (length old.bots))))

  pub is_ordered : IsOrdered (plain_diff old new)
  is_ordered =
      let all : Rising key (spots ++ bodies) = Rising-append key at_most_one bodies_rise (λ p q hp hq.
      let (u, eu) = spot_told p hp in
      let (j, ej) = body_told q hq in
      omega (arith, ap rank eu, ap rank ej)) in
      increasing-from_Rising key (plain_diff old new) (subst (Rising key) (sym parts) all)
