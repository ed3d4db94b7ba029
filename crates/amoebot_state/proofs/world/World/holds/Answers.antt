use Rattle.std.proofs.Common.{◌≡◌, ◌∙◌, ap, sym, subst, Decides, Bool, Some}
use Rattle.std.specs.List.{All}
use Rattle.amoebot_state.specs.declared.cell.CellName.{CellName}
use Rattle.amoebot_state.specs.declared.cell.Cell.{Cell}
use Rattle.amoebot_state.specs.Pairs.{cell_of, cell_value, plain_patch}
use Rattle.amoebot_state.specs.Configs.{value}
use Rattle.amoebot_state.specs.Fitting.{have_cells}
use Rattle.amoebot_state.proofs.Fits.{cells_decide}
use Rattle.amoebot_state.proofs.world.World.holds.Goals as goal

pub returns : goal.returns
returns c =
    let ps = plain_patch c.args.patch.now in
    let is : have_cells c.args.self.now ps ≡ c.have_cells.result = sym (c.have_cells.ensures ∙ ap (have_cells c.args.self.now) (c.pairs.ensures.value ∙ c.plain-plain.ensures)) in
    subst (λ (t : Bool). Decides t (All (λ (p : CellName × Cell). value c.args.self.now (cell_of p) ≡ Some (cell_value p)) ps)) is (cells_decide c.args.self.now ps)
