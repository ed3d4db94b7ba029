-- A patch that is in its order and lists cells of a zone has at most ten pairs.
use Rattle.std.proofs.Common.{ℕ, ◌<◌, ◌≤◌, ltb, List, [], ◌∷◌, length, map, filter, refl, sym, subst, inl, inr, arith}
use Rattle.std.specs.List.{All, Contains, count_by}
use Rattle.std.proofs.lemmas.Bool.{cases_Bool, ltb-true, lt-ltb}
use Rattle.std.proofs.lemmas.List.{length-map}
use Rattle.std.proofs.lemmas.List.Elements.{All-contains}
use Rattle.std.proofs.lemmas.List.Kept.{AllPairs-from_increasing}
use Rattle.std.proofs.lemmas.List.Sums.{length-filter}
use Rattle.amoebot_state.specs.declared.cell.CellName.{CellName}
use Rattle.amoebot_state.specs.declared.cell.CellName.TheVariants as name
use Rattle.amoebot_state.specs.declared.cell.Cell.{Cell}
use Rattle.amoebot_state.specs.Limits.{most_pairs}
use Rattle.amoebot_state.specs.Pairs.{Pairs, cell_of}
use Rattle.amoebot_state.specs.Patches.{IsOrdered, rank}
use Rattle.amoebot_state.specs.Laws.{is_body}
use Rattle.amoebot_state.proofs.Members.{Has, here, later, not_in_none, has_cases, map_has, Has-map, Has-filter, Contains-from_Has, Has-from_Contains, length-filter-le}
use Rattle.amoebot_state.proofs.RisingLists.{Rising, none, more, Rising-map, Rising-from_increasing}

-- ---- numbers that rise

-- a list that has a number has fewer numbers above it
after_one : (x : ℕ) (ys : List ℕ) → Has x ys → length (filter (λ y. ltb x y) ys) < length ys
after_one x [] has = absurd (not_in_none has)
after_one x (y ∷ ys) has = elim (cases_Bool (ltb x y)) [
  | inl t ↦ rw t (elim (has_cases has) [
    | inl e ↦ absurd (let lt = ltb-true x y t in omega arith)
    | inr h ↦ let rest = after_one x ys h in omega arith
  ])
  | inr f ↦ rw f (let few = length-filter-le (λ z. ltb x z) ys in omega arith)
]

-- numbers that rise are no more than those of a list that has them all
no_more_than : (xs ys : List ℕ) → Rising (λ k. k) xs → ((x : ℕ) → Has x xs → Has x ys) → length xs ≤ length ys
no_more_than [] ys none there = omega arith
no_more_than (x ∷ xs) ys (more below rest) there =
    let fewer = after_one x ys (there x here) in
    let some = no_more_than xs (filter (λ y. ltb x y) ys) rest (λ z has. Has-filter (λ y. ltb x y) ys (there z (later has)) (lt-ltb x z (below z has))) in
    omega arith

-- ---- patches

abbrev key : CellName × Cell → ℕ
key p = rank (cell_of p)

module _ (cells : List CellName) where
  abbrev ranks : List ℕ
  ranks = 0 ∷ map rank (filter is_body cells)

  rank_there : (n : CellName) → Has n cells → Has (rank n) ranks
  rank_there (name.Spot v) has = here
  rank_there (name.Body i) has = later (Has-map rank (Has-filter is_body cells has refl))

  pub few_pairs : (ps : Pairs) → IsOrdered ps → All (λ (p : CellName × Cell). Contains cells (cell_of p)) ps → count_by is_body cells ≤ 9 → length ps ≤ most_pairs
  few_pairs ps ordered listed few =
      let rises : Rising (λ k. k) (map key ps) = Rising-map key (λ k. k) key (λ x has. refl) (Rising-from_increasing key ps (AllPairs-from_increasing (map key ps) ordered)) in
      let fits = no_more_than (map key ps) ranks rises (λ x has.
      let found = map_has key ps has in
      let in' = All-contains (λ (p : CellName × Cell). Contains cells (cell_of p)) ps found.0 listed (Contains-from_Has ps found.1) in
      subst (λ (k : ℕ). Has k ranks) (sym found.2) (rank_there (cell_of found.0) (Has-from_Contains cells in'))) in
      let long = length-map ps key in
      let body_ranks = length-map (filter is_body cells) rank in
      let bodies = length-filter is_body cells in
      omega arith
