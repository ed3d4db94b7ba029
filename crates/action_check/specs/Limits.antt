-- The ranges of the language's numbers.
use Rattle.std.specs.Prelude.{ℕ}

-- the greatest number in a sum
abbrev pub most_literal : ℕ
most_literal = 65535

-- the greatest local direction, and the greatest number of a turn
abbrev pub most_direction : ℕ
most_direction = 5
