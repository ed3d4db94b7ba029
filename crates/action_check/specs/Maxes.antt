-- The greatest values of the variables, in the order of their declaration,
-- and 0 for those that a program lacks.
use Rattle.std.specs.Prelude.{ℕ, zero, suc, List, [], ◌∷◌, map}
use Rattle.amoebot_state.specs.Limits.{most_vars}
use Rattle.action_tree.specs.Trees.{Program}

-- the first so many, with a 0 for each that is not there
abbrev pub first_or_zero : ℕ → List ℕ → List ℕ
first_or_zero zero ns = []
first_or_zero (suc k) [] = 0 ∷ first_or_zero k []
first_or_zero (suc k) (n ∷ ns) = n ∷ first_or_zero k ns

abbrev pub maxes_of : Program → List ℕ
maxes_of p = first_or_zero most_vars (map (λ v. v.max.value) p.vars)
