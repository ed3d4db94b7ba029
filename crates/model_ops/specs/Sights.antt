-- What an amoebot can ask of a configuration before it changes anything (this project's profile).
use Rattle.std.specs.Prelude.{ℕ, Bool}
use Rattle.std.specs.declared.option.Option.{Option}
use Rattle.std.specs.declared.result.Result.{Result}
use Rattle.amoebot_state.specs.declared.bot.Bot.{Bot}
use Rattle.amoebot_state.specs.declared.bot.Port.{Port}
use Rattle.amoebot_state.specs.declared.verdict.Failure.{Failure}
use Rattle.amoebot_state.specs.Configs.{Config, bot_of}
use Rattle.model_ops.specs.declared.peer.Peer.{Peer}
use Rattle.model_ops.specs.Operations.{connected, is_free, read, peer}

-- its own amoebot, and the answers of the operations that change nothing
pub record Sight : Type 0 where
  pub own : Bot
  pub connects : Port → Result Bool Failure
  pub frees : Port → Result Bool Failure
  pub reads : Option Port → ℕ → Result ℕ Failure
  pub peers : Port → Result Peer Failure

-- what the amoebot with an id can ask of a configuration
abbrev pub sight : Config → ℕ → Sight
sight c i = record {
  own = bot_of c i;
  connects = connected c i;
  frees = is_free c i;
  reads = read c i;
  peers = peer c i;
}
