use Rattle.std.proofs.Common.{◌∙◌, ap, sym}
use Rattle.std.specs.Prelude.{is_some}
use Rattle.tri_lattice.specs.Extent.{Extent}
use Rattle.amoebot_state.specs.Configs.{Config, frame_of, bot_at}
use Rattle.amoebot_state.specs.Zones.{Shown, shown_with, shown}
use Rattle.amoebot_state.proofs.ExampleLemmas.{edge, first}
use Rattle.tests_model.proofs.worlds.found_at_edge.Goals as goal

pub make-requires-clause-shown : goal.make-requires-clause-shown
make-requires-clause-shown c =
    let within : Extent → Shown = λ a. shown_with (frame_of a (first 1)) 0 (shown edge 0).cells in (
      c.args.world.now,
      c.keeps.ensures.valid,
      ap (λ (w : Config). is_some (bot_at w 0)) c.requires,
      ap (λ w. shown w 0) c.requires ∙ ap within (sym (c.area.ensures ∙ ap (λ (w : Config). w.area) c.requires)),
    )
