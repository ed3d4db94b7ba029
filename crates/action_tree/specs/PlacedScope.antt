-- What the names stand for that a pass over the code knows.
-- Private functions alone cite it.
use Rattle.std.specs.Prelude.{map}
use Rattle.action_tree.specs.declared.scope.Scope as code
use Rattle.action_tree.specs.Scopes.{Scope, names_of_vars}
use Rattle.action_tree.specs.Views.{var_of}

abbrev pub placed_scope : code.Scope → Scope
placed_scope sc =
    record { vars = names_of_vars (map var_of sc.vars.now); bound = map (λ name. name.bytes) sc.bound.items }
