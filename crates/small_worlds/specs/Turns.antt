-- Turns on the row, one after another.
-- That of the first amoebot fails, since the node beside it is occupied; the second expands,
-- and then it is idle.
use Rattle.amoebot_state.specs.declared.verdict.Failure.TheVariants as failure
use Rattle.amoebot_state.specs.declared.verdict.Turned.TheVariants as turned
use Rattle.amoebot_state.specs.SerialTurns.{SerialTurn}
use Rattle.small_worlds.specs.Rows.{two_beside, expanded, one_refused}

pub record SmallSerialTurns : Type 0 where
  pub failed : SerialTurn two_beside.verdict 0 0 0 two_beside.world
      (turned.Failed failure.Occupied) two_beside.world
  pub done : SerialTurn two_beside.verdict 1 0 1 two_beside.world (turned.Done expanded) one_refused.world
  pub idle : SerialTurn two_beside.verdict 1 1 1 one_refused.world turned.Idle one_refused.world
