use Rattle.std.proofs.Common.{◌≡◌, length}
use Rattle.std.specs.Prelude.{IsSome}
use Rattle.std.specs.List.{All}
use Rattle.amoebot_state.specs.Configs.{bot_at}
use Rattle.claim_core.specs.Turns.{HaveBots}
use Rattle.small_worlds.proofs.worlds.lists_of.Given as goal

abbrev pub invariant-loop-list : goal.invariant-loop-list
invariant-loop-list l = (length l.lists.ids ≡ l.list-index) × All (All (λ id. IsSome (bot_at l.world id))) l.lists.ids × HaveBots (length l.world.bots) l.lists
