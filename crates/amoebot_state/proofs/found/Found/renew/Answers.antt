use Rattle.std.proofs.Common.{◌∙◌, ap, subst, sym, List}
use Rattle.std.specs.Prelude.{is_some}
use Rattle.tri_lattice.specs.declared.node.Node.{Node}
use Rattle.amoebot_state.specs.declared.cell.CellName.{CellName}
use Rattle.amoebot_state.specs.Walls.{node_numbers}
use Rattle.amoebot_state.specs.declared.cell.Cell.{Cell}
use Rattle.amoebot_state.specs.Zones.{shown_by}
use Rattle.amoebot_state.specs.Ways.{IsFound, Reading, ways_read}
use Rattle.amoebot_state.proofs.Shows.{length-shown-le, shown_own, found_with}
use Rattle.amoebot_state.proofs.found.Found.renew.Goals as goal

pub own_in-self-inside-requires : goal.own_in-self-inside-requires
own_in-self-inside-requires c = ap is_some (shown_own _ c.requires.shown).1

pub copy_all-requires : goal.copy_all-requires
copy_all-requires c = length-shown-le _ c.requires.shown

pub invariant_of-self : goal.invariant_of-self
invariant_of-self c =
    let own = c.own_in-self-inside.result in
    let ways = c.ways-self-inside.result in
    let told = c.ways-self-inside.ensures ∙ ap (λ (r : Reading). r.ways) c.requires.known ∙ ap (ways_read c.args.area) (sym c.own_in-self-inside.ensures) in
    let P : List (CellName × Cell) → Type 0 = λ cells. IsFound (shown_by c.args.area c.args.maxes c.args.bot (node_numbers c.args.area c.copy_nodes.new.copy.items) cells) own ways in
    let Q : List Node → Type 0 = λ walls. IsFound (shown_by c.args.area c.args.maxes c.args.bot (node_numbers c.args.area walls) c.args.cells.now) own ways in
    subst P (sym c.copy_all.ensures) (subst Q (sym c.copy_nodes.ensures) (found_with _ own ways c.requires.shown c.own_in-self-inside.ensures told))
