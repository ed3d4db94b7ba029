-- A shape is read back from its text.
use Rattle.std.specs.Prelude.{◌≡◌, ◌<◌, ◌≤◌, ◌-◌, ℕ, [], false, Some, length, drop, replicate, Ok, codes}
use Rattle.std.specs.Option.{IsSome}
use Rattle.std.specs.List.{All}
use Rattle.amoebot_state.specs.declared.bot.Bot.{Bot}
use Rattle.amoebot_state.specs.Configs.{Config, IsValid, bot_at}
use Rattle.amoebot_state.specs.Limits.{most_bots, most_vars, most_value}
use Rattle.text_tokens.specs.Inputs.{Says}
use Rattle.shape_text.specs.Parts.{may_have_walls}
use Rattle.shape_text.specs.Shapes.{IsShape, IsFinal}
use Rattle.shape_text.specs.Texts.{shape_text}

-- What a world is: valid, with at most 4,096 amoebots, whose ids have no gaps.
-- No maximum is above 255, and the amoebots have 0 past the variables.
-- In a version that has no word for walls it has none.
pub record IsWritableConfig (version vars : ℕ) (c : Config) : Type 0 where
  pub valid : IsValid c
  pub walls : may_have_walls version ≡ false → c.walls ≡ []
  pub few : length c.bots ≤ most_bots
  pub no_gaps : (id : ℕ) → id < length c.bots → IsSome (bot_at c id)
  pub maxes : All (λ m. m ≤ most_value) c.maxes
  pub zeros : (id : ℕ) (b : Bot) → bot_at c id ≡ Some b → drop vars b.mem ≡ replicate (most_vars - vars) 0

-- such a configuration is read back, as the one section and as the other
pub record ShapeReadsBack (version vars : ℕ) (c : Config) : Type 0 where
  pub shape : Says (IsShape version vars c.maxes) (shape_text (codes "shape") vars c) (Ok c)
  pub final : Says (IsFinal version vars c.maxes) (shape_text (codes "final") vars c) (Ok c)

abbrev pub ShapesReadBack : Type 0
ShapesReadBack = (version vars : ℕ) (c : Config) → vars ≤ most_vars
    → IsWritableConfig version vars c → ShapeReadsBack version vars c
