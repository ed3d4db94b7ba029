use Rattle.std.proofs.Common.{subst}
use Rattle.amoebot_state.specs.Zones.{IsShown}
use Rattle.amoebot_state.proofs.Shows.{shown_in_range, shown_valid}
use Rattle.amoebot_state.proofs.found.Found.own.Goals as goal

pub returns-clause-in_range : goal.returns-clause-in_range
returns-clause-in_range c = shown_in_range _ c.self.inside.own c.self.inside.ways c.self.invariant

pub returns-clause-valid : goal.returns-clause-valid
returns-clause-valid c = shown_valid c.args.self.now (subst IsShown c.self.view_is c.self.invariant.shown)
