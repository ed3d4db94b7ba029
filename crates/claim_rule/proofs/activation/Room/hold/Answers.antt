use Rattle.std.proofs.Common.{◌++◌, ◌∷◌, [], List, ap, sym, ◌∙◌}
use Rattle.tri_lattice.specs.declared.node.Node.{Node}
use Rattle.amoebot_state.specs.Known.{is_wall_cell, walls_read}
use Rattle.claim_rule.proofs.KnownWalls.{walls_with, walls_without}
use Rattle.claim_rule.proofs.activation.Room.hold.Goals as goal

pub push-requires : goal.push-requires
push-requires c = (c.args.self.now.bot, c.args.self.now.cells, c.args.cell, c.requires.knows.zone, c.requires.order)

pub push-requires-2 : goal.push-requires-2
push-requires-2 c = c.requires.few

pub returns-in-Spot-clause-walls : goal.returns-in-Spot-clause-walls
returns-in-Spot-clause-walls c = λ w known told.
    let cells = c.args.self.now.cells in
    let node = c.in-Spot.node in
    let wall = sym (ap (is_wall_cell w) c.in-Spot.is) ∙ sym told ∙ c.if-wall.true in
    let more = ap (walls_read w) c.push-2.ensures ∙ ap (λ n. walls_read w (cells ++ (n, c.args.value) ∷ [])) c.in-Spot.is ∙ walls_with w cells node c.args.value wall in
    c.push-in-Spot.ensures.items ∙ ap (λ (vs : List Node). vs ++ node ∷ []) known ∙ sym more

pub returns-else-wall-clause-walls : goal.returns-else-wall-clause-walls
returns-else-wall-clause-walls c = λ w known told.
    known ∙ sym (ap (walls_read w) c.push-2.ensures ∙ walls_without w c.args.self.now.cells c.args.cell c.args.value (sym told ∙ c.if-wall.false))
