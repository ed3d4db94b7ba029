use Rattle.std.proofs.Common.{◌∙◌, ap}
use Rattle.amoebot_state.specs.Walls.{node_numbers}
use Rattle.model_ops.proofs.Opened.{opens}
use Rattle.model_ops.proofs.draft.Draft.new.Goals as goal

pub invariant_of-result : goal.invariant_of-result
invariant_of-result c = (opens c.args.found.now c.area.result c.copy_walls.new.copy.items c.maxes.result c.bot.result c.gather.new.members.items c.gather.ensures.shown c.area.ensures (ap (node_numbers c.args.found.now.area) c.copy_walls.ensures ∙ c.walls.ensures.value) c.maxes.ensures c.bot.ensures c.gather.ensures.value).0

pub returns : goal.returns
returns c = (opens c.args.found.now c.area.result c.copy_walls.new.copy.items c.maxes.result c.bot.result c.gather.new.members.items c.gather.ensures.shown c.area.ensures (ap (node_numbers c.args.found.now.area) c.copy_walls.ensures ∙ c.walls.ensures.value) c.maxes.ensures c.bot.ensures c.gather.ensures.value).1
