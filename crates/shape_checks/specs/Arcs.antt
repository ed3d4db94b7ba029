-- The places of a circle that is a list.
use Rattle.std.specs.Prelude.{◌≡◌, ◌↔◌, ℕ, ◌+◌, ◌-◌, ◌<◌, ◌%◌, Bool, false, IsTrue, List, length, slice_index_or}

-- the entry at a place, false outside
abbrev pub circle_entry : List Bool → ℕ → Bool
circle_entry circle k = slice_index_or circle k false

-- the place is true, and the one before it, going round, is false
pub record IsStart (circle : List Bool) (i : ℕ) : Type 0 where
  pub below : i < length circle
  pub here : IsTrue (circle_entry circle i)
  pub before : circle_entry circle ((i + length circle - 1) % length circle) ≡ false

-- of m places in a circle those that pass are the first n from place i on, going round
abbrev pub AreFirst : (ℕ → Bool) → ℕ → ℕ → ℕ → Type 0
AreFirst p m i n = (j : ℕ) → j < m → IsTrue (p ((i + j) % m)) ↔ (j < n)
