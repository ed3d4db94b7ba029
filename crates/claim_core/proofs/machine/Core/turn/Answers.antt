use Rattle.std.proofs.Common.{refl}
use Rattle.claim_core.proofs.machine.Core.turn.Goals as goal

pub returns : goal.returns
returns g c = (_, c.seat-seat.ensures.1, refl)
