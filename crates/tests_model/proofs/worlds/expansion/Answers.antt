use Rattle.std.proofs.Common.{◌++◌, ◌∷◌, [], ◌∙◌, ap}
use Rattle.amoebot_state.proofs.ExampleLemmas.{at, entered, body_changed, contracted, expanded}
use Rattle.tests_model.proofs.worlds.expansion.Goals as goal

pub returns : goal.returns
returns c = c.push-2.ensures ∙ ap (λ ps. ps ++ body_changed 0 (contracted (at 2 3)) (expanded (at 3 3) (at 2 3)) ∷ []) (c.push.ensures ∙ ap (λ ps. ps ++ entered 3 3 0 ∷ []) c.new-patch.ensures)
