use Rattle.std.proofs.Common.{length, subst}
use Rattle.std.specs.Prelude.{OnOk}
use Rattle.amoebot_state.specs.Configs.{Config}
use Rattle.amoebot_state.specs.Refusals.{IsFaultless}
use Rattle.amoebot_state.proofs.world.World.walled.Goals as goal

pub returns-clause-faultless : goal.returns-clause-faultless
returns-clause-faultless c = subst (λ (f : Config). OnOk c.framed.result (IsFaultless f c.args.bots.now (length c.args.bots.now))) c.in_ok-frame.ensures.value c.framed.ensures.faultless
