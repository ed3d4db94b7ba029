-- The working copy that an activation changes before anything is committed
-- (this project's profile).
use Rattle.std.specs.Prelude.{ℕ}
use Rattle.std.specs.declared.result.Result.{Result}
use Rattle.std.specs.declared.result.Result.TheVariants.{Ok, Err}
use Rattle.amoebot_state.specs.declared.verdict.Failure.{Failure}
use Rattle.amoebot_state.specs.Pairs.{Triples}
use Rattle.amoebot_state.specs.Configs.{Config, bot_of}
use Rattle.amoebot_state.specs.declared.bot.Bot.{Bot}
use Rattle.amoebot_state.specs.Zones.{Shown, IsShown, shown_alone}
use Rattle.amoebot_state.specs.Patches.{diff}
use Rattle.model_ops.specs.Reaches.{Reaches, ReachesUnmoved}

-- what was found, and the configuration reached so far
pub record WorkingCopy : Type 0 where
  pub found : Shown
  pub reached : Config

-- the copy at first: the configuration that has what was found and no other amoebot
abbrev pub opened : Shown → WorkingCopy
opened s = record { found = s; reached = shown_alone s }

-- the id that works on it
abbrev pub own_id : WorkingCopy → ℕ
own_id w = w.found.bot

-- its amoebot, as it is now
abbrev pub own_bot : WorkingCopy → Bot
own_bot w = bot_of w.reached (own_id w)

-- some valid configuration shows what was found, and an activation reaches the one reached so far
pub record IsWorking (w : WorkingCopy) : Type 0 where
  pub shown : IsShown w.found
  pub reached : Reaches (shown_alone w.found) w.found.bot w.reached

-- no movement has succeeded: writes alone reach it
abbrev pub IsUnmoved : WorkingCopy → Type 0
IsUnmoved w = ReachesUnmoved (shown_alone w.found) w.found.bot w.reached

-- the cells that differ from what was found, with their values then and now
abbrev pub changes : WorkingCopy → Triples
changes w = diff (shown_alone w.found) w.reached

-- the copy after an operation on it: where that succeeds, its configuration is reached;
-- a failure leaves the copy as it is
abbrev pub copy_after : WorkingCopy → Result Config Failure → WorkingCopy
copy_after w (Ok d) = record w { reached = d }
copy_after w (Err f) = w
