use Rattle.std.proofs.Common.{◌≡◌, ◌∙◌, ap, sym, subst}
use Rattle.std.specs.Prelude.{is_some}
use Rattle.tri_lattice.specs.Extent.{Extent}
use Rattle.amoebot_state.specs.Configs.{IsValid}
use Rattle.amoebot_state.specs.Zones.{shown, shown_by, zone, zone_nodes}
use Rattle.amoebot_state.specs.Walls.{node_numbers}
use Rattle.amoebot_state.proofs.Counts.{at_most_ten_nodes}
use Rattle.amoebot_state.specs.Pairs.{Pairs, body_in}
use Rattle.amoebot_state.proofs.ShownAlone.{body_shown}
use Rattle.amoebot_state.proofs.Shows.{is_shown}
use Rattle.amoebot_state.proofs.Zones.{own_in_zone}
use Rattle.amoebot_state.proofs.world.World.found.Goals as goal

pub push_nodes-ways-requires-clause-few : goal.push_nodes-ways-requires-clause-few
push_nodes-ways-requires-clause-few c =
    let fits = (subst IsValid c.self.view_is c.self.invariant.valid).each c.args.bot c.own-own.result c.own-own.ensures.value in
    at_most_ten_nodes c.area-area.result c.own-own.result fits.rot fits.close

pub put_zone-requires-clause-nodes : goal.put_zone-requires-clause-nodes
put_zone-requires-clause-nodes c = c.as_slice.ensures.value ∙ c.push_nodes-ways.ensures.nodes ∙ ap (λ (a : Extent). zone_nodes a c.own-own.result) c.area-area.ensures

valid : (c : goal.After-put_zone) → IsValid c.args.self.now
valid c = subst IsValid c.self.view_is c.self.invariant.valid

whole : (c : goal.After-put_zone) → shown_by c.area-area.result c.maxes-maxes.result c.args.bot (node_numbers c.area-area.result c.put_zone.new.walls.items) c.put_zone.new.cells.items ≡ shown c.args.self.now c.args.bot
whole c = is_shown c.args.self.now c.args.bot c.area-area.result c.maxes-maxes.result c.put_zone.new.cells.items c.put_zone.new.walls.items (valid c) c.area-area.ensures c.maxes-maxes.ensures c.put_zone.ensures.cells c.put_zone.ensures.walls

pub of_parts-requires-clause-shown : goal.of_parts-requires-clause-shown
of_parts-requires-clause-shown c = (c.args.self.now, valid c, ap is_some c.own-own.ensures.value, sym (whole c))

pub of_parts-requires-clause-own : goal.of_parts-requires-clause-own
of_parts-requires-clause-own c =
    let w = c.args.self.now in
    let i = c.args.bot in
    let at = c.own-own.ensures.value in
    sym at ∙ sym (body_shown w (zone w i) i (own_in_zone w i c.own-own.result at)) ∙ ap (λ (ps : Pairs). body_in ps i) (sym c.put_zone.ensures.cells)

pub returns-clause-value : goal.returns-clause-value
returns-clause-value c = c.of_parts.ensures ∙ whole c.before
