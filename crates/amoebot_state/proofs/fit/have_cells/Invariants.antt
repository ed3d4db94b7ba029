use Rattle.std.proofs.Common.{◌≡◌, drop}
use Rattle.amoebot_state.specs.Fitting.{have_cells}
use Rattle.amoebot_state.proofs.fit.have_cells.Given as goal

abbrev pub invariant-loop-name : goal.invariant-loop-name
invariant-loop-name l = have_cells l.world l.cells ≡ have_cells l.world (drop l.name-index l.cells)
