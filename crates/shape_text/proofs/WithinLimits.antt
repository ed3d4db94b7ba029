-- The nodes and the values of the amoebots of a valid configuration are within the limits of texts.
use Rattle.std.proofs.Common.{◌≡◌, ℕ, ℤ, pos, negsuc, zero, suc, ◌<◌, ◌≤◌, true, List, length, get_or, subst, refl, arith}
use Rattle.std.specs.Prelude.{◌≤ℤ◌, ◌-ℤ◌, nat_le, slice_index, IsTrue}
use Rattle.std.specs.List.{All}
use Rattle.std.proofs.lemmas.List.{get_or_default}
use Rattle.std.proofs.lemmas.List.Sums.{AllPass-from_list_all}
use Rattle.std.proofs.lemmas.Bool.{leb-true}
use Rattle.std.proofs.lemmas.Int.{ints}
use Rattle.tri_lattice.specs.declared.node.Node.{Node}
use Rattle.tri_lattice.specs.Extent.{Extent, IsArea, is_in}
use Rattle.tri_lattice.proofs.Boxes.{in_places}
use Rattle.amoebot_state.specs.Configs.{has_values, variables}
use Rattle.amoebot_state.specs.Limits.{most_value}
use Rattle.shape_text.specs.Limits.{most_coordinate}
use Rattle.shape_text.specs.PartLimits.{size, HasCoordinates}

-- ---- nodes

near_start : (z x0 : ℤ) (i : ℕ) → negsuc 4095 ≤ℤ x0 → x0 ≤ℤ pos 4096 → z -ℤ x0 ≡ pos i → i < 128 → size z ≤ most_coordinate
near_start (pos n) x0 i low high e lt = omega (arith, ints)
near_start (negsuc n) x0 i low high e lt = omega (arith, ints)

pub has_coordinates : (a : Extent) (v : Node) → IsArea a → IsTrue (is_in a v) → HasCoordinates v
has_coordinates a v area e =
    let (i, j, x, in_w, y, in_h) = in_places a v e in
    record { x = near_start v.x a.x0 i area.x_low area.x_high x (let h = area.w_high in omega arith); y = near_start v.y a.y0 j area.y_low area.y_high y (let h = area.h_high in omega arith) }

-- ---- values

at_variables : (k : ℕ) → k < 8 → get_or variables k 0 ≡ k
at_variables zero lt = refl
at_variables (suc zero) lt = refl
at_variables (suc (suc zero)) lt = refl
at_variables (suc (suc (suc zero))) lt = refl
at_variables (suc (suc (suc (suc zero)))) lt = refl
at_variables (suc (suc (suc (suc (suc zero))))) lt = refl
at_variables (suc (suc (suc (suc (suc (suc zero)))))) lt = refl
at_variables (suc (suc (suc (suc (suc (suc (suc zero))))))) lt = refl
at_variables (suc (suc (suc (suc (suc (suc (suc (suc k)))))))) lt = absurd (omega arith)

module _ (maxes mem : List ℕ) (has : has_values maxes mem ≡ true) where
  abbrev Fits : ℕ → Type 0
  Fits k = nat_le (slice_index mem k) (slice_index maxes k) ≡ true

  -- no value is above its maximum
  pub below_max : (k : ℕ) → k < 8 → slice_index mem k ≤ slice_index maxes k
  below_max k lt =
      let fits : Fits k = subst Fits (at_variables k lt) (AllPass-from_list_all (λ j. nat_le (slice_index mem j) (slice_index maxes j)) variables has k 0 lt) in
      leb-true (slice_index mem k) (slice_index maxes k) fits

  pub small_values : length mem ≡ 8 → length maxes ≡ 8 → All (λ m. m ≤ most_value) maxes → All (λ v. v ≤ most_value) mem
  small_values eight most small k d lt =
      let le = below_max k (omega arith) in
      let top = small k 0 (omega arith) in
      let same = get_or_default mem k d 0 lt in
      omega arith
