-- How many callers, turns and ids there may be. All of it is this project's profile.
use Rattle.std.specs.Prelude.{ℕ}

-- the most callers
abbrev pub most_callers : ℕ
most_callers = 16

-- the most turns of all callers together, and so the most entries
abbrev pub most_turns : ℕ
most_turns = 65536

-- the most ids of one list
abbrev pub most_ids : ℕ
most_ids = 4096
