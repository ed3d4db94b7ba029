use Rattle.std.proofs.Common.{◌<◌, ◌∙◌, ap, sym, arith, length, Some, None}
use Rattle.std.proofs.lemmas.List.{length-map, get_or-map}
use Rattle.amoebot_state.specs.Configs.{Config}
use Rattle.amoebot_state.proofs.Occupants.{bot_in_range}
use Rattle.amoebot_state.proofs.world.World.bot.Goals as goal

pub returns-clause-in_range : goal.returns-clause-in_range
returns-clause-in_range c =
    let bots = c.self.inside.amoebots.items in
    let b = c.index.result.now in
    let same = ap (λ (d : Config). length d.bots) c.self.view_is in
    let mapped = length-map bots Some in
    let below : c.from.result < length bots = omega (arith, c.requires, c.from.ensures, same, mapped) in
    bot_in_range _ c.self.invariant.valid c.from.result b (get_or-map Some bots c.from.result b None below ∙ ap Some (sym c.index.ensures))
