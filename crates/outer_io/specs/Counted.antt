-- A reader or a writer, with the number of its faults.
use Rattle.std.specs.Prelude.{ℕ, ◌+◌, ◌-◌, ◌^◌, min, Result, Ok, Err}

pub record Counted (T : Type 0) : Type 0 where
  pub inner : T
  pub faults : ℕ

-- the most faults that a count tells: its last value, of 64 bits
abbrev pub most_faults : ℕ
most_faults = 2 ^ 64 - 1

-- a count after one more fault: the last value stays
abbrev pub raised_count : ℕ → ℕ
raised_count count = min (count + 1) most_faults

-- a count after a call: as before, or after one more fault where the call failed
abbrev pub count_after : {A E : Type 0} → Result A E → ℕ → ℕ
count_after (Ok a) count = count
count_after (Err e) count = raised_count count
