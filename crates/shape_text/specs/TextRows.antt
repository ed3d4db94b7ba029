-- Some configurations with their texts.
use Rattle.std.specs.Prelude.{◌≡◌, pos, negsuc, [], ◌∷◌, codes}
use Rattle.amoebot_state.specs.declared.bot.Bot.{Bot}
use Rattle.amoebot_state.specs.declared.bot.Chir.TheVariants.{Plus, Minus}
use Rattle.amoebot_state.specs.Configs.{frame_of, walled_frame, with_these}
use Rattle.amoebot_state.specs.Examples.{eight_by_eight}
use Rattle.shape_text.specs.Shapes.{an_area_of}
use Rattle.shape_text.specs.Parts.{a_node_of}
use Rattle.shape_text.specs.ShapeRows.{rising, shape_bot}
use Rattle.shape_text.specs.Texts.{shape_text}

-- an amoebot with two values
abbrev pub its_bot : Bot
its_bot = shape_bot (negsuc 2) (pos 0) (negsuc 3) (pos 0) 5 Minus (1 ∷ 255 ∷ [])

pub record ShapeTextsArePrinted : Type 0 where
  pub no_amoebot : shape_text (codes "shape") 0 (frame_of eight_by_eight rising)
      ≡ codes "shape\narea 0 0 8 8\nend\n"
  pub last_shape : shape_text (codes "final") 2
      (with_these (frame_of (an_area_of (negsuc 4095) (negsuc 0) 128 1) rising)
      (its_bot ∷ shape_bot (pos 12) (negsuc 0) (pos 12) (negsuc 0) 0 Plus [] ∷ []))
      ≡ codes "final\narea -4096 -1 128 1\nbot -3 0 -4 0 5 - 1 255\nbot 12 -1 12 -1 0 + 0 0\nend\n"
  -- no variable, and eight
  pub no_value : shape_text (codes "shape") 0 (with_these (frame_of eight_by_eight rising) (its_bot ∷ []))
      ≡ codes "shape\narea 0 0 8 8\nbot -3 0 -4 0 5 -\nend\n"
  pub eight_values : shape_text (codes "shape") 8 (with_these (frame_of eight_by_eight rising) (its_bot ∷ []))
      ≡ codes "shape\narea 0 0 8 8\nbot -3 0 -4 0 5 - 1 255 0 0 0 0 0 0\nend\n"
  -- walls by their numbers, before the amoebots
  pub walls : shape_text (codes "final") 0
      (with_these
      (walled_frame eight_by_eight
      (a_node_of (pos 3) (pos 3) ∷ a_node_of (pos 7) (pos 0) ∷ a_node_of (pos 0) (pos 3) ∷ []) rising)
      (shape_bot (pos 2) (pos 3) (pos 2) (pos 3) 0 Plus [] ∷ []))
      ≡ codes "final\narea 0 0 8 8\nwall 7 0\nwall 0 3\nwall 3 3\nbot 2 3 2 3 0 +\nend\n"
