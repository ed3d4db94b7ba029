use Rattle.std.proofs.Common.{◌≡◌, ◌∙◌, ap, arith, length, subst, sym}
use Rattle.amoebot_state.specs.Configs.{IsValid}
use Rattle.amoebot_state.specs.Pairs.{nodes_in}
use Rattle.amoebot_state.specs.Walls.{node_numbers}
use Rattle.amoebot_state.specs.Zones.{Shown, shown_by, shown_with}
use Rattle.amoebot_state.proofs.Shows.{few_nodes, is_shown_with}
use Rattle.amoebot_state.proofs.world.World.found_with.Goals as goal

pub walls_in-walls-requires : goal.walls_in-walls-requires
walls_in-walls-requires c =
    let (d, valid, there, is) = c.requires in
    omega (arith, few_nodes d c.args.bot valid, ap (λ (s : Shown). length (nodes_in s.cells)) is)

whole : (c : goal.After-as_slice) → shown_by c.area.result c.maxes.result c.args.bot (node_numbers c.area.result c.as_slice.result.now) c.args.cells.now ≡ shown_with c.args.self.now c.args.bot c.args.cells.now
whole c = is_shown_with c.args.self.now c.args.bot c.area.result c.maxes.result c.args.cells.now c.as_slice.result.now (subst IsValid c.self.view_is c.self.invariant.valid) c.area.ensures c.maxes.ensures (c.as_slice.ensures.value ∙ c.walls_in-walls.ensures)

pub make-requires-clause-shown : goal.make-requires-clause-shown
make-requires-clause-shown c = let (d, valid, there, is) = c.requires in (d, valid, there, is ∙ sym (whole c))

pub returns : goal.returns
returns c = c.make.ensures ∙ whole c.before
