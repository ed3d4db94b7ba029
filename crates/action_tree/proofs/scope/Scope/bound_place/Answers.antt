use Rattle.std.proofs.Common.{sym, ◌∙◌}
use Rattle.arrayvec.specs.ArrayString.{ArrayString}
use Rattle.action_tree.proofs.PlacesLemmas.{found, not_found}
use Rattle.action_tree.proofs.scope.Scope.bound_place.Goals as goal

pub returns-in-Some : goal.returns-in-Some
returns-in-Some c = rw (← c.as_slice-bound.ensures.value) (found (λ (text : ArrayString). text.bytes) c.args.name.now.text.bytes _ _ (sym c.first_text.ensures ∙ c.in-Some.is))

pub returns-in-None : goal.returns-in-None
returns-in-None c = rw (← c.as_slice-bound.ensures.value) (not_found (λ (text : ArrayString). text.bytes) c.args.name.now.text.bytes _ (sym c.first_text.ensures ∙ c.in-None.is))
