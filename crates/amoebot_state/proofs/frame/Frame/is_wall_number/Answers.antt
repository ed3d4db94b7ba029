use Rattle.std.proofs.Common.{◌∙◌, false, sym, arith}
use Rattle.std.proofs.lemmas.Bool.{le-ltb}
use Rattle.std.proofs.lemmas.List.{get_or_default, get_or_past}
use Rattle.amoebot_state.proofs.Frames.{wall_by}
use Rattle.amoebot_state.proofs.frame.Frame.is_wall_number.Goals as goal

pub returns-then-place-len : goal.returns-then-place-len
returns-then-place-len c =
    let mine = c.self.inside in
    wall_by mine.area mine.maxes mine.walls.items c.args.number c.index.result.now c.args.self.now c.self.view_is (c.index.ensures ∙ get_or_default mine.walls.items c.args.number c.index.result.now false (omega (arith, c.if-place-len.true, c.len.ensures, mine.walls.ok)))

pub returns-else-place-len : goal.returns-else-place-len
returns-else-place-len c =
    let mine = c.self.inside in
    wall_by mine.area mine.maxes mine.walls.items c.args.number _ c.args.self.now c.self.view_is (le-ltb c.args.number c.len.result c.if-place-len.false ∙ sym (get_or_past mine.walls.items c.args.number false (omega (arith, c.if-place-len.false, c.len.ensures))))
