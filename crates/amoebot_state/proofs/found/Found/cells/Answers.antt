use Rattle.std.proofs.Common.{subst}
use Rattle.amoebot_state.specs.Zones.{IsShown}
use Rattle.amoebot_state.proofs.found.Found.cells.Goals as goal

pub returns-clause-shown : goal.returns-clause-shown
returns-clause-shown c = subst IsShown c.self.view_is c.self.invariant.shown
