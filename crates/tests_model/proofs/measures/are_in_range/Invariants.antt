use Rattle.std.proofs.Common.{◌<◌, ℕ, get_or}
use Rattle.amoebot_state.specs.declared.bot.Bot.{Bot}
use Rattle.amoebot_state.specs.Refusals.{IsBotInRange}
use Rattle.tests_model.proofs.measures.are_in_range.Given as goal

abbrev pub invariant-loop-bot : goal.invariant-loop-bot
invariant-loop-bot l = (k : ℕ) (d : Bot) → k < l.bot-index → IsBotInRange (get_or l.bots k d)
