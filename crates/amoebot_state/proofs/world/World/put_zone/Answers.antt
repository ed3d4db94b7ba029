use Rattle.std.proofs.Common.{◌≡◌, ◌∙◌, ◌<◌, ◌≤◌, ◌∷◌, ◌++◌, [], length, ap, arith, sym, subst, List, ℕ, filter, map}
use Rattle.std.specs.List.{All, filter_map}
use Rattle.std.proofs.lemmas.List.{length-append, length-map}
use Rattle.tri_lattice.specs.declared.node.Node.{Node}
use Rattle.amoebot_state.specs.declared.cell.CellName.{CellName}
use Rattle.amoebot_state.specs.declared.cell.CellName.TheVariants as name
use Rattle.amoebot_state.specs.declared.cell.Cell.{Cell}
use Rattle.amoebot_state.specs.declared.cell.Cell.TheVariants as cell
use Rattle.amoebot_state.specs.Configs.{IsValid, is_wall, occupant}
use Rattle.amoebot_state.specs.Known.{walls_read}
use Rattle.amoebot_state.specs.Zones.{others, shown_cell}
use Rattle.amoebot_state.proofs.Counts.{at_most_ten_nodes, at_most_eight_others}
use Rattle.amoebot_state.proofs.Shows.{cells_made, zone_cells_nodes}
use Rattle.amoebot_state.proofs.Zones.{others_there}
use Rattle.amoebot_state.proofs.world.World.put_zone.Goals as goal

pub put_nodes-ids-requires-clause-few : goal.put_nodes-ids-requires-clause-few
put_nodes-ids-requires-clause-few c =
    let fits = (subst IsValid c.self.view_is c.self.invariant.valid).each c.args.bot c.args.own.now c.requires.there in
    subst (λ (vs : List Node). length vs ≤ 10) (sym c.requires.nodes) (at_most_ten_nodes c.args.self.now.area c.args.own.now fits.rot fits.close)

pub put_nodes-ids-requires-clause-room : goal.put_nodes-ids-requires-clause-room
put_nodes-ids-requires-clause-room c =
    let fits = (subst IsValid c.self.view_is c.self.invariant.valid).each c.args.bot c.args.own.now c.requires.there in
    omega (arith, c.push.ensures.len, ap length c.requires.no_cells, ap length c.requires.nodes, at_most_ten_nodes c.args.self.now.area c.args.own.now fits.rot fits.close)

pub put_bodies-requires-clause-room : goal.put_bodies-requires-clause-room
put_bodies-requires-clause-room c =
    let w = c.args.self.now in
    let vs = c.args.nodes.now in
    let spot : Node → CellName × Cell = λ v. (name.Spot v, cell.Spot (occupant w v)) in
    let valid = subst IsValid c.self.view_is c.self.invariant.valid in
    let fits = valid.each c.args.bot c.args.own.now c.requires.there in
    let spots = ap length c.put_nodes-ids.ensures.cells ∙ length-append c.push.new.self.items (map spot vs) in
    let bodies = ap length (c.as_slice.ensures.value ∙ c.put_nodes-ids.ensures.others ∙ ap (others (occupant w) c.args.bot) c.requires.nodes) in
    omega (
      arith,
      c.push.ensures.len,
      ap length c.requires.no_cells,
      ap length c.requires.nodes,
      spots,
      length-map vs spot,
      bodies,
      at_most_ten_nodes w.area c.args.own.now fits.rot fits.close,
      at_most_eight_others w c.args.bot c.args.own.now valid c.requires.there,
    )

pub put_bodies-requires-clause-there : goal.put_bodies-requires-clause-there
put_bodies-requires-clause-there c =
    let P : List ℕ → Type 0 = λ is. All (λ j. j < length c.args.self.now.bots) is in
    subst P (sym (c.as_slice.ensures.value ∙ c.put_nodes-ids.ensures.others)) (others_there c.args.self.now c.args.bot c.args.nodes.now)

-- all cells, as they were added
added : (c : goal.After-put_bodies) → c.put_bodies.new.cells.items ≡ ((name.Body c.args.bot, cell.Body c.args.own.now) ∷ map (λ v. (name.Spot v, cell.Spot (occupant c.args.self.now v))) c.args.nodes.now) ++ filter_map (λ j. shown_cell c.args.self.now (name.Body j)) c.put_nodes-ids.result.items
added c =
    let w = c.args.self.now in
    let first : CellName × Cell = (name.Body c.args.bot, cell.Body c.args.own.now) in
    let spots : List Node → List (CellName × Cell) = λ vs. map (λ v. (name.Spot v, cell.Spot (occupant w v))) vs in
    let bodies : List ℕ → List (CellName × Cell) = λ is. filter_map (λ j. shown_cell w (name.Body j)) is in
    c.put_bodies.ensures
    ∙ ap (λ is. c.put_nodes-ids.new.cells.items ++ bodies is) c.as_slice.ensures.value
    ∙ ap (λ xs. xs ++ bodies c.put_nodes-ids.result.items) (c.put_nodes-ids.ensures.cells
    ∙ ap (λ xs. xs ++ spots c.args.nodes.now) (c.push.ensures.items ∙ ap (λ xs. xs ++ first ∷ []) c.requires.no_cells))

pub returns-clause-cells : goal.returns-clause-cells
returns-clause-cells c = cells_made c.args.self.now c.args.bot c.args.own.now c.args.nodes.now c.put_nodes-ids.result.items c.put_bodies.new.cells.items c.requires.there c.requires.nodes c.put_nodes-ids.ensures.others (added c)

pub returns-clause-walls : goal.returns-clause-walls
returns-clause-walls c =
    let w = c.args.self.now in
    c.put_nodes-ids.ensures.walls
    ∙ ap (filter (is_wall w)) (sym (zone_cells_nodes w c.args.bot (cell.Body c.args.own.now) c.args.nodes.now c.put_nodes-ids.result.items))
    ∙ ap (walls_read w) (sym (added c))
