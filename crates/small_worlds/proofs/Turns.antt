-- Turns on the small row, computed.
use Rattle.std.proofs.Common.{refl, sym, subst}
use Rattle.amoebot_state.specs.Configs.{Config}
use Rattle.amoebot_state.specs.Steps.{Step}
use Rattle.small_worlds.specs.Rows.{two_beside, expanded, one_refused}
use Rattle.small_worlds.specs.Turns.{SmallSerialTurns}
use Rattle.small_worlds.proofs.Rows.{good}

step : Step two_beside.verdict two_beside.world expanded one_refused.world
step = let run = good.run in subst (λ (w : Config). Step two_beside.verdict two_beside.world expanded w) (sym run.2) run.1

pub small_serial_turns : SmallSerialTurns
small_serial_turns = record {
  failed = (refl, refl);
  done = (step, record { by = refl; at = refl; of = refl });
  idle = (refl, refl);
}
