use Rattle.std.proofs.Common.{◌≡◌, ◌<◌, ℕ}
use Rattle.std.specs.Prelude.{IsTrue}
use Rattle.std.specs.declared.option.Option.TheVariants.{Some}
use Rattle.amoebot_state.specs.declared.bot.Bot.{Bot}
use Rattle.amoebot_state.specs.Configs.{bot_at}
use Rattle.shape_checks.specs.Marks.{node_mark}
use Rattle.shape_checks.proofs.Bots.{Both}
use Rattle.shape_checks.proofs.connected.are_marked.Given as goal

abbrev pub invariant-loop-id : goal.invariant-loop-id
invariant-loop-id l = (i : ℕ) (b : Bot) → i < l.id → bot_at l.world i ≡ Some b → Both (λ v. IsTrue (node_mark l.world.area l.marks v)) b
