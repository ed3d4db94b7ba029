-- The owner of a cell as one number.
use Rattle.std.specs.Prelude.{ℕ, ◌+◌, ◌-◌, ◌*◌, ◌/◌, ◌%◌}
use Rattle.amoebot_state.specs.Limits.{most_bots}
use Rattle.claim_core.specs.Limits.{most_turns}

-- the tag of a caller in a turn on an amoebot; 0 is that of a free cell
abbrev pub tag : ℕ → ℕ → ℕ → ℕ
tag caller turn bot = 1 + bot + most_bots * (turn + most_turns * caller)

-- the caller in a tag, the turn and the amoebot
abbrev pub tag_caller : ℕ → ℕ
tag_caller t = (t - 1) / most_bots / most_turns

abbrev pub tag_turn : ℕ → ℕ
tag_turn t = (t - 1) / most_bots % most_turns

abbrev pub tag_bot : ℕ → ℕ
tag_bot t = (t - 1) % most_bots
