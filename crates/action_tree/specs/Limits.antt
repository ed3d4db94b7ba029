-- The limits of the language.
use Rattle.std.specs.Prelude.{ℕ}

-- of levels open at once
abbrev pub most_levels : ℕ
most_levels = 32

-- of names in force at once
abbrev pub most_names : ℕ
most_names = 4

-- of the elements of an `and` or an `or`, the terms of a sum, the statements of a list;
-- and of those behind the first one
abbrev pub most_elements : ℕ
most_elements = 64

abbrev pub most_further : ℕ
most_further = 63

abbrev pub most_actions : ℕ
most_actions = 32
