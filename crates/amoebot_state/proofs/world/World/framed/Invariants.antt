use Rattle.std.proofs.Common.{◌≡◌, take}
use Rattle.amoebot_state.specs.Configs.{with_these}
use Rattle.amoebot_state.specs.Refusals.{IsFaultless}
use Rattle.amoebot_state.proofs.world.World.framed.Given as goal

abbrev pub invariant-loop-bot : goal.invariant-loop-bot
invariant-loop-bot l = (l.world ≡ with_these l.fn.frame (take l.bot-index l.bots)) × IsFaultless l.fn.frame l.bots l.bot-index
