-- The amoebots of a valid configuration can be written.
use Rattle.std.proofs.Common.{◌≡◌, ℕ, ◌+◌, ◌-◌, ◌<◌, ◌≤◌, true, List, length, get_or, drop, replicate, arith}
use Rattle.std.specs.Prelude.{slice_index}
use Rattle.std.specs.List.{All}
use Rattle.std.proofs.lemmas.List.{get_or-drop, get_or-replicate, length-drop, length-replicate, ext_get_or}
use Rattle.tri_lattice.specs.Extent.{IsArea}
use Rattle.amoebot_state.specs.declared.bot.Bot.{Bot}
use Rattle.amoebot_state.specs.Configs.{Config, IsBot, frame, has_values}
use Rattle.amoebot_state.specs.Limits.{most_vars, most_value}
use Rattle.shape_text.specs.PartLimits.{HasLimits}
use Rattle.shape_text.proofs.WithinLimits.{has_coordinates, below_max, small_values}

-- ---- values

abbrev zeros : ℕ → List ℕ
zeros n = replicate n 0

length-zeros : (n : ℕ) → length (zeros n) ≡ n
length-zeros n = length-replicate n 0

zero_at : (n i : ℕ) → i < n → get_or (zeros n) i 0 ≡ 0
zero_at n i lt = get_or-replicate n i 0 0 lt

module _ (maxes mem : List ℕ) (has : has_values maxes mem ≡ true) where
  -- where the maxima are 0, the values are
  zeros_past : (vars : ℕ) → vars ≤ most_vars → length mem ≡ 8 → ((k : ℕ) → vars ≤ k → slice_index maxes k ≡ 0) → drop vars mem ≡ replicate (most_vars - vars) 0
  zeros_past vars few eight none =
      ext_get_or 0 (drop vars mem) (zeros (most_vars - vars)) (omega (arith, length-drop vars mem, length-zeros (most_vars - vars))) (λ i lt.
      let long = length-drop vars mem in
      let at = get_or-drop vars mem i 0 in
      let le = below_max maxes mem has (vars + i) (omega arith) in
      let gone = none (vars + i) (omega arith) in
      let other = zero_at (most_vars - vars) i (omega arith) in
      omega arith)

-- ---- amoebots

pub limits_of : (vars : ℕ) (c : Config) → vars ≤ most_vars → IsArea c.area → length c.maxes ≡ 8 → All (λ m. m ≤ most_value) c.maxes → ((k : ℕ) → vars ≤ k → slice_index c.maxes k ≡ 0) → (b : Bot) → IsBot (frame c) b → HasLimits vars b
limits_of vars c few is_area most small none b is = record {
  head = has_coordinates c.area b.head is_area is.head;
  tail = has_coordinates c.area b.tail is_area is.tail;
  rot = (let r = is.rot in omega arith);
  eight = is.eight;
  values = small_values c.maxes b.mem is.values is.eight most small;
  zeros = zeros_past c.maxes b.mem is.values vars few is.eight none;
}
