-- One arc is a row of true entries.
use Rattle.std.proofs.Common.{◌≡◌, ℕ, suc, ◌-◌, ◌<◌, Bool, true, false, length, arith, refl, sym, subst, List}
use Rattle.std.proofs.lemmas.List.{ext_get_or}
use Rattle.std.proofs.Math.Bool.{beq}
use Rattle.ring_guard.specs.Rings.{ring_entry, row, IsOneArc, is_one_arc, IsRow}
use Rattle.ring_guard.specs.Laws.{ArcsAreRows}
use Rattle.ring_guard.proofs.Tables.{each_list, each_below, each_below_at, some_below, some_below_at, implies, implies_at, beq-true, is_one_arc-true, IsOneArc-is_one_arc, ring_table}

-- the ring is the row of suc k entries from one direction on
abbrev is_row : List Bool → ℕ → ℕ → Bool
is_row xs from k = each_below 6 (λ i. beq (ring_entry xs i) (ring_entry (row from (suc k)) i))

arcs_row : each_list 6 (λ xs. implies (is_one_arc xs) (some_below 6 (λ from. some_below 6 (is_row xs from)))) ≡ true
arcs_row = refl

rows_are_arcs : each_below 6 (λ from. each_below 6 (λ k. is_one_arc (row from (suc k)))) ≡ true
rows_are_arcs = refl

row_of : (xs : List Bool) → length xs ≡ 6 → IsOneArc xs → IsRow xs
row_of xs six arc =
    let found = implies_at _ _ (ring_table (λ ys. implies (is_one_arc ys) (some_below 6 (λ from. some_below 6 (is_row ys from)))) arcs_row xs) (IsOneArc-is_one_arc xs arc) in
    let (from, below, counts) = some_below_at 6 (λ a. some_below 6 (is_row xs a)) found in
    let (k, most, same) = some_below_at 6 (is_row xs from) counts in
    record {
      from = from;
      count = suc k;
      below = below;
      some = omega arith;
      most = omega arith;
      is = ext_get_or false xs (row from (suc k)) six (λ i l. beq-true _ _ (each_below_at 6 (λ j. beq (ring_entry xs j) (ring_entry (row from (suc k)) j)) same i (omega arith)));
    }

arc_of : (from k : ℕ) → from < 6 → k < 6 → IsOneArc (row from (suc k))
arc_of from k below most =
    is_one_arc-true _ (each_below_at 6 (λ j. is_one_arc (row from (suc j))) (each_below_at 6 (λ a. each_below 6 (λ j. is_one_arc (row a (suc j)))) rows_are_arcs from below) k most)

row_is_arc : (xs : List Bool) → IsRow xs → IsOneArc xs
row_is_arc xs r =
    let some = r.some in
    let most = r.most in
    let count : suc (r.count - 1) ≡ r.count = omega arith in
    let arc : IsOneArc (row r.from r.count) = subst (λ (n : ℕ). IsOneArc (row r.from n)) count (arc_of r.from (r.count - 1) r.below (omega arith)) in
    subst IsOneArc (sym r.is) arc

pub arcs_are_rows : ArcsAreRows
arcs_are_rows xs six = (row_of xs six, row_is_arc xs)
