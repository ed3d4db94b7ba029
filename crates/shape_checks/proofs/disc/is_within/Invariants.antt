use Rattle.std.proofs.Common.{◌≡◌, ◌<◌, ◌≤◌, ℕ}
use Rattle.std.specs.declared.option.Option.TheVariants.{Some}
use Rattle.tri_lattice.specs.Lattice.{distance}
use Rattle.amoebot_state.specs.declared.bot.Bot.{Bot}
use Rattle.amoebot_state.specs.Configs.{bot_at}
use Rattle.shape_checks.proofs.disc.is_within.Given as goal

abbrev pub invariant-loop-id : goal.invariant-loop-id
invariant-loop-id l = (i : ℕ) (b : Bot) → i < l.id → bot_at l.world i ≡ Some b → distance l.centre b.head ≤ l.radius
