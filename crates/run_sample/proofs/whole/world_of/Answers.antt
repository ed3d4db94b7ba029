use Rattle.run_sample.proofs.Worlds.{are_in_range, memory_wanted, world_is}
use Rattle.run_sample.proofs.whole.world_of.Goals as goal

pub new-requires-clause-in_range : goal.new-requires-clause-in_range
new-requires-clause-in_range c = are_in_range c.args.bots.now c.requires.valid

pub wanting-requires : goal.wanting-requires
wanting-requires c = memory_wanted c.area.result c.args.maxes c.args.bots.now c.in-Err.refusal c.area.ensures c.requires.maxes c.requires.valid c.in-Err.ensures.fault

pub returns-in-Ok : goal.returns-in-Ok
returns-in-Ok c = world_is c.in-Ok.world c.area.result c.args.maxes c.args.bots.now c.in-Ok.ensures.value c.area.ensures c.requires.maxes
