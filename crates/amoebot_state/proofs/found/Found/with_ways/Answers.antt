use Rattle.std.proofs.Common.{ap, subst, sym, List}
use Rattle.std.specs.Prelude.{is_some}
use Rattle.tri_lattice.specs.declared.node.Node.{Node}
use Rattle.amoebot_state.specs.declared.cell.CellName.{CellName}
use Rattle.amoebot_state.specs.Walls.{node_numbers}
use Rattle.amoebot_state.specs.declared.cell.Cell.{Cell}
use Rattle.amoebot_state.specs.Zones.{shown_by}
use Rattle.amoebot_state.specs.Ways.{IsFound}
use Rattle.amoebot_state.proofs.Shows.{length-shown-le, shown_own, found_with}
use Rattle.amoebot_state.proofs.found.Found.with_ways.Goals as goal

pub own_in-requires : goal.own_in-requires
own_in-requires c = ap is_some (shown_own _ c.requires.shown).1

pub copied-requires : goal.copied-requires
copied-requires c = length-shown-le _ c.requires.shown

pub invariant_of-result : goal.invariant_of-result
invariant_of-result c =
    let own = c.own_in.result in
    let P : List (CellName × Cell) → Type 0 = λ cells. IsFound (shown_by c.args.area c.args.maxes c.args.bot (node_numbers c.args.area c.copied_nodes.result.items) cells) own c.args.ways in
    let Q : List Node → Type 0 = λ walls. IsFound (shown_by c.args.area c.args.maxes c.args.bot (node_numbers c.args.area walls) c.args.cells.now) own c.args.ways in
    subst P (sym c.copied.ensures) (subst Q (sym c.copied_nodes.ensures) (found_with _ own c.args.ways c.requires.shown c.own_in.ensures (c.requires.known own c.own_in.ensures)))
