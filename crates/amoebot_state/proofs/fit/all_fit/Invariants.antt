use Rattle.std.proofs.Common.{◌≡◌, drop}
use Rattle.std.specs.List.{list_all}
use Rattle.amoebot_state.specs.declared.cell.CellName.{CellName}
use Rattle.amoebot_state.specs.declared.cell.Cell.{Cell}
use Rattle.amoebot_state.specs.Pairs.{cell_of, cell_value}
use Rattle.amoebot_state.specs.Fitting.{all_fit, cell_fits}
use Rattle.amoebot_state.proofs.fit.all_fit.Given as goal

abbrev pub invariant-loop-name : goal.invariant-loop-name
invariant-loop-name l =
    all_fit l.world l.cells
    ≡ list_all (λ (p : CellName × Cell). cell_fits l.world l.cells (cell_of p) (cell_value p)) (drop l.name-index l.cells)
