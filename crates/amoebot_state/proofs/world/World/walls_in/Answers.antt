use Rattle.std.proofs.Common.{◌∙◌, ◌++◌, ◌+◌, ◌∷◌, [], get_or, None, ap, arith, length, pos, sym}
use Rattle.tri_lattice.specs.declared.node.Node.{Node}
use Rattle.amoebot_state.specs.declared.cell.CellName.{CellName}
use Rattle.amoebot_state.specs.declared.cell.CellName.TheVariants as name
use Rattle.amoebot_state.specs.declared.cell.Cell.{Cell}
use Rattle.amoebot_state.specs.declared.cell.Cell.TheVariants as cell
use Rattle.amoebot_state.specs.Known.{walls_read}
use Rattle.amoebot_state.proofs.WallsRead.{few_walls_read, walls_read_more}
use Rattle.amoebot_state.proofs.world.World.walls_in.Goals as goal

pub push_wall-requires : goal.push_wall-requires
push_wall-requires c =
    let origin : Node = record { x = pos 0; y = pos 0 } in
    let empty : CellName × Cell = (name.Spot origin, cell.Spot None) in
    let w = c.args.self.now in
    let cells = c.args.cells.now in
    let i = c.loop-name.name-index in
    let grown = walls_read_more w cells i empty c.loop-name-test.true in
    let longer = ap (λ vs. vs ++ walls_read w (((get_or cells i empty).0, cell.Spot None) ∷ [])) c.loop-name.invariant ∙ sym grown in
    omega (arith, ap length longer, few_walls_read w cells (i + 1), c.requires)

pub loop-name-preserved : goal.loop-name-preserved
loop-name-preserved c =
    let origin : Node = record { x = pos 0; y = pos 0 } in
    let empty : CellName × Cell = (name.Spot origin, cell.Spot None) in
    let w = c.args.self.now in
    let cells = c.args.cells.now in
    let i = c.loop-name.name-index in
    c.push_wall.ensures ∙ ap (λ vs. vs ++ walls_read w (((get_or cells i empty).0, cell.Spot None) ∷ [])) c.loop-name.invariant ∙ sym (walls_read_more w cells i empty c.loop-name-test.true)
