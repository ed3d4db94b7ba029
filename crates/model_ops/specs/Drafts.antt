-- What a site stands for: what was found, with the own memory as it was written, or its draft.
-- No public clause cites these.
use Rattle.std.specs.Prelude.{◌≡◌}
use Rattle.std.specs.declared.option.Option.{Option}
use Rattle.std.specs.declared.option.Option.TheVariants.{Some, None}
use Rattle.amoebot_state.specs.declared.bot.Bot.{Bot}
use Rattle.amoebot_state.specs.Configs.{Config, bot_at, set_bot}
use Rattle.amoebot_state.specs.Refusals.{IsBotInRange}
use Rattle.amoebot_state.specs.Zones.{Shown, shown_alone}
use Rattle.model_ops.specs.WorkingCopies.{WorkingCopy}

-- the configuration that has what was found, with this amoebot in the place of the own one
abbrev pub with_own : Shown → Bot → Config
with_own s own = set_bot (shown_alone s) s.bot own

-- the copy that has reached it
abbrev pub own_written : Shown → Bot → WorkingCopy
own_written s own = record { found = s; reached = with_own s own }

-- the copy that a site stands for: its draft, where it has one
abbrev pub copy_in : Shown → Bot → Option WorkingCopy → WorkingCopy
copy_in s own None = own_written s own
copy_in s own (Some draft) = draft

-- the amoebot that was found, with another memory at most
pub record IsOwn (s : Shown) (own : Bot) : Type 0 where
  pub found : Bot
  pub at : bot_at (shown_alone s) s.bot ≡ Some found
  pub memory : own ≡ record found { mem = own.mem }
  pub in_range : IsBotInRange own
