use Rattle.std.proofs.Common.{◌≡◌, ◌∷◌, [], ◌∙◌, ap, sym, refl, subst}
use Rattle.std.specs.Prelude.{IsTrue}
use Rattle.tri_lattice.specs.declared.node.Node.{Node}
use Rattle.amoebot_state.specs.Ports.{is_beside}
use Rattle.amoebot_state.specs.Configs.{Config, bot_of}
use Rattle.amoebot_state.specs.Zones.{Shown, shown, shown_alone}
use Rattle.amoebot_state.proofs.ExampleLemmas.{at, contracted, stretched, world}
use Rattle.tests_model.proofs.worlds.a_copy_shows_what_stands_round_an_amoebot.Goals as goal

abbrev three : Config
three = world (contracted (at 6 6) ∷ stretched ∷ contracted (at 1 3) ∷ [])

beside : (s : Shown) → s ≡ shown three 1 → (v : Node) → IsTrue (is_beside stretched v) → IsTrue (is_beside (bot_of (shown_alone s) s.bot) v)
beside s is v near = subst (λ (t : Shown). IsTrue (is_beside (bot_of (shown_alone t) t.bot) v)) (sym is) near

pub occupant-behind-requires : goal.occupant-behind-requires
occupant-behind-requires g c = beside c.found-found.result (c.found-found.ensures.value ∙ ap (λ w. shown w 1) c.in_ok-copy.ensures) (at 1 3) refl

pub occupant-before-requires : goal.occupant-before-requires
occupant-before-requires g c = beside c.found-found.result (c.found-found.ensures.value ∙ ap (λ w. shown w 1) c.in_ok-copy.ensures) (at 4 3) refl
