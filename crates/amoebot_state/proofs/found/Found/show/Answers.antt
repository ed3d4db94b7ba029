use Rattle.std.proofs.Common.{◌∙◌, ap, sym}
use Rattle.std.specs.Prelude.{is_some}
use Rattle.amoebot_state.specs.Pairs.{Pairs, body_in}
use Rattle.amoebot_state.specs.Zones.{zone}
use Rattle.amoebot_state.proofs.Counts.{at_most_ten_nodes}
use Rattle.amoebot_state.proofs.ShownAlone.{body_shown}
use Rattle.amoebot_state.proofs.Shows.{found_with, is_shown}
use Rattle.amoebot_state.proofs.Zones.{own_in_zone}
use Rattle.amoebot_state.proofs.found.Found.show.Goals as goal

pub push_nodes-self-inside-requires-clause-few : goal.push_nodes-self-inside-requires-clause-few
push_nodes-self-inside-requires-clause-few c =
    let fits = c.keeps.ensures.valid.each c.args.bot c.bot.result.now (sym c.bot.ensures.value) in
    at_most_ten_nodes c.area-area.result c.bot.result.now fits.rot fits.close

pub invariant_of-self : goal.invariant_of-self
invariant_of-self c =
    let w = c.args.world.now in
    let i = c.args.bot in
    let at = sym c.bot.ensures.value in
    let whole = is_shown w i c.area-area.result c.maxes-self-inside.result c.put_zone.new.cells.items c.put_zone.new.walls.items c.keeps.ensures.valid c.area-area.ensures c.maxes-self-inside.ensures c.put_zone.ensures.cells c.put_zone.ensures.walls in
    found_with _ c.bot.result.now c.push_nodes-self-inside.result
    (w, c.keeps.ensures.valid, ap is_some at, sym whole)
    (sym at ∙ sym (body_shown w (zone w i) i (own_in_zone w i c.bot.result.now at)) ∙ ap (λ (ps : Pairs). body_in ps i) (sym c.put_zone.ensures.cells))
    c.push_nodes-self-inside.ensures.ways

pub returns : goal.returns
returns c = is_shown c.args.world.now c.args.bot c.area-area.result c.maxes-self-inside.result c.put_zone.new.cells.items c.put_zone.new.walls.items c.keeps.ensures.valid c.area-area.ensures c.maxes-self-inside.ensures c.put_zone.ensures.cells c.put_zone.ensures.walls
