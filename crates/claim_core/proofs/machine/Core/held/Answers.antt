use Rattle.std.proofs.Common.{ap, sym}
use Rattle.std.specs.Prelude.{reverse}
use Rattle.claim_core.proofs.machine.Core.held.Goals as goal

pub returns : goal.returns
returns g c = (_, c.seat-seat.ensures.1, ap reverse (sym c.as_slice.ensures.value))
