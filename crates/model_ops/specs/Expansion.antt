-- What a program of one action decides, which expands contracted amoebots.
-- Guarded actions are the paper's; verdicts are this project's profile.
use Rattle.std.specs.Prelude.{ℕ, if◌then◌else◌}
use Rattle.std.specs.declared.result.Result.{Result}
use Rattle.std.specs.declared.result.Result.TheVariants.{Ok, Err}
use Rattle.amoebot_state.specs.declared.bot.Port.{Port}
use Rattle.amoebot_state.specs.declared.verdict.Failure.{Failure}
use Rattle.amoebot_state.specs.declared.verdict.Moved.{Moved}
use Rattle.amoebot_state.specs.declared.verdict.Moved.TheVariants as moved
use Rattle.amoebot_state.specs.declared.verdict.Verdict.{Verdict}
use Rattle.amoebot_state.specs.declared.verdict.Verdict.TheVariants as verdict
use Rattle.amoebot_state.specs.Ports.{is_contracted}
use Rattle.amoebot_state.specs.Configs.{Config, bot_of}
use Rattle.amoebot_state.specs.Patches.{diff}
use Rattle.amoebot_state.specs.Zones.{Shown, shown_alone}
use Rattle.model_ops.specs.Operations.{expand}

-- the difference that an operation makes, as the change of an action of this number; or its failure
abbrev pub verdict_by : Config → ℕ → Moved → Result Config Failure → Verdict
verdict_by old action by (Ok new) =
    verdict.Change (record { action = action; moved = by; patch = diff old new })
verdict_by old action by (Err f) = verdict.Failed f

-- what a program decides on an amoebot of a configuration whose one action, of number 0,
-- is to expand through a port when it is contracted: an expanded amoebot is idle
abbrev pub expansion_verdict : Port → Config → ℕ → Verdict
expansion_verdict p c i =
    if is_contracted (bot_of c i) then verdict_by c 0 (moved.Expand p) (expand c i p) else verdict.Idle

-- the same, decided on what the amoebot is shown: on the configuration that has
-- what is shown and no other amoebot
abbrev pub expansion_verdict_shown : Port → Shown → Verdict
expansion_verdict_shown p s = expansion_verdict p (shown_alone s) s.bot
