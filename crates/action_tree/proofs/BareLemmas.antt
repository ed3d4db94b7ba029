-- The names that a program declares are those of its tree without lines.
use Rattle.std.proofs.Common.{◌≡◌, List, [], ◌∷◌, map, refl, ap}
use Rattle.action_tree.specs.Trees.{Var}
use Rattle.action_tree.specs.Lines.{bare_var}
use Rattle.action_tree.specs.Scopes.{names_of_vars}

pub vars_named : (vs : List Var) → names_of_vars vs ≡ names_of_vars (map bare_var vs)
vars_named [] = refl
vars_named (v ∷ vs) = ap (λ names. v.name.text ∷ names) (vars_named vs)
