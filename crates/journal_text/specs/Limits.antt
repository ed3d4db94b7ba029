-- How large the numbers of a text may be. All of it is this project's profile.
use Rattle.std.specs.Prelude.{ℕ, ◌-◌}
use Rattle.claim_core.specs.Limits.{most_callers, most_turns}

-- the number of the last caller, and that of the last turn of one
abbrev pub last_caller : ℕ
last_caller = most_callers - 1

abbrev pub last_turn : ℕ
last_turn = most_turns - 1
