use Rattle.std.proofs.Common.{◌∙◌, None, true, ap, pos, sym}
use Rattle.amoebot_state.specs.declared.cell.CellName.{CellName}
use Rattle.amoebot_state.specs.declared.cell.CellName.TheVariants as name
use Rattle.amoebot_state.specs.declared.cell.Cell.{Cell}
use Rattle.amoebot_state.specs.declared.cell.Cell.TheVariants as cell
use Rattle.amoebot_state.specs.Zones.{Shown}
use Rattle.amoebot_state.proofs.Stored.{no_spot, pair_there, spot_same}
use Rattle.amoebot_state.specs.Around.{on_node}
use Rattle.amoebot_state.proofs.found.Found.on_place.Goals as goal

abbrev blank : CellName × Cell
blank = (name.Spot (record { x = pos 0; y = pos 0 }), cell.Spot None)

pub returns-in-Spot : goal.returns-in-Spot
returns-in-Spot c = λ v o e.
    let pair = pair_there c.as_slice.result.now c.args.self.now.cells _ blank (name.Spot v, cell.Spot o) (c.as_slice.ensures.value ∙ ap (λ (s : Shown). s.cells) c.self.view_is) e in
    let who = spot_same _ o (sym c.in-Spot.is ∙ ap (λ (p : CellName × Cell). p.1) pair) in
    c.on_spot.ensures v (ap (λ (p : CellName × Cell). p.0) pair) ∙ ap (on_node true _) who

pub returns-in-Body : goal.returns-in-Body
returns-in-Body c = λ v o e.
    let pair = pair_there c.as_slice.result.now c.args.self.now.cells _ blank (name.Spot v, cell.Spot o) (c.as_slice.ensures.value ∙ ap (λ (s : Shown). s.cells) c.self.view_is) e in
    absurd (no_spot _ o (sym c.in-Body.is ∙ ap (λ (p : CellName × Cell). p.1) pair))
