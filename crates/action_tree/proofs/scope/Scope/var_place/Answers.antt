use Rattle.std.proofs.Common.{sym, ◌∙◌}
use Rattle.action_tree.specs.declared.program.Var.{Var}
use Rattle.action_tree.proofs.PlacesLemmas.{found, not_found, names_seen}
use Rattle.action_tree.proofs.scope.Scope.var_place.Goals as goal

pub returns-in-Some : goal.returns-in-Some
returns-in-Some c =
    rw names_seen (found (λ (v : Var). v.name.text.bytes) c.args.name.now.text.bytes c.args.self.now.vars.now _ (sym c.first_var.ensures ∙ c.in-Some.is))

pub returns-in-None : goal.returns-in-None
returns-in-None c =
    rw names_seen (not_found (λ (v : Var). v.name.text.bytes) c.args.name.now.text.bytes c.args.self.now.vars.now (sym c.first_var.ensures ∙ c.in-None.is))
