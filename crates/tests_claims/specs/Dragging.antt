-- What a program of two actions decides: an expanded amoebot drags a contracted neighbour behind
-- it by a Pull, and notes that it is expanded where there is none.
-- Support of tests, and no part of the model.
use Rattle.std.specs.Prelude.{ℕ, pos, Bool, true, false, if◌then◌else◌}
use Rattle.std.specs.declared.option.Option.TheVariants.{None}
use Rattle.std.specs.declared.result.Result.{Result}
use Rattle.std.specs.declared.result.Result.TheVariants.{Ok, Err}
use Rattle.amoebot_state.specs.declared.bot.Port.{Port}
use Rattle.amoebot_state.specs.declared.verdict.Failure.{Failure}
use Rattle.amoebot_state.specs.declared.verdict.Moved.TheVariants as moved
use Rattle.amoebot_state.specs.declared.verdict.Verdict.{Verdict}
use Rattle.amoebot_state.specs.declared.verdict.Verdict.TheVariants as verdict
use Rattle.amoebot_state.specs.Ports.{is_contracted}
use Rattle.amoebot_state.specs.Configs.{Config, bot_of}
use Rattle.amoebot_state.specs.Zones.{Shown, shown_alone}
use Rattle.model_ops.specs.declared.peer.Peer.{Peer}
use Rattle.model_ops.specs.Expansion.{verdict_by}
use Rattle.model_ops.specs.Operations.{connected, peer, pull, write}

-- action 0, drag: a Pull through the port
abbrev pub drag : Port → Config → ℕ → Verdict
drag p c i = verdict_by c 0 (moved.Pull p) (pull c i p)

-- action 1, note: variable 0 is 1
abbrev pub note : Config → ℕ → Verdict
note c i = verdict_by c 1 moved.None (write c i None 0 (pos 1))

-- by what is seen of a neighbour: a contracted one is dragged
abbrev pub by_peer : Port → Config → ℕ → Result Peer Failure → Verdict
by_peer p c i (Err f) = verdict.Failed f
by_peer p c i (Ok seen) = if seen.expanded then note c i else drag p c i

-- by whether there is a neighbour
abbrev pub by_link : Port → Config → ℕ → Result Bool Failure → Verdict
by_link p c i (Err f) = verdict.Failed f
by_link p c i (Ok true) = by_peer p c i (peer c i p)
by_link p c i (Ok false) = note c i

-- what the program decides on an amoebot of a configuration: drag when expanded,
-- linked and the peer behind the port is not expanded; else note when expanded;
-- a contracted amoebot is idle
abbrev pub dragging : Port → Config → ℕ → Verdict
dragging p c i = if is_contracted (bot_of c i) then verdict.Idle else by_link p c i (connected c i p)

-- the same, decided on what the amoebot is shown: on the configuration that has
-- what is shown and no other amoebot
abbrev pub dragging_shown : Port → Shown → Verdict
dragging_shown p s = dragging p (shown_alone s) s.bot
