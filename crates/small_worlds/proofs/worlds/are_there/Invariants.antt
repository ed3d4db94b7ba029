use Rattle.std.proofs.Common.{◌<◌, length}
use Rattle.std.specs.Prelude.{IsSome}
use Rattle.std.specs.List.{AllWithin}
use Rattle.amoebot_state.specs.Configs.{bot_at}
use Rattle.small_worlds.proofs.worlds.are_there.Given as goal

abbrev pub invariant-loop-id : goal.invariant-loop-id
invariant-loop-id l = AllWithin (λ id. IsSome (bot_at l.world id)) l.ids 0 l.id-index × AllWithin (λ id. id < length l.world.bots) l.ids 0 l.id-index
