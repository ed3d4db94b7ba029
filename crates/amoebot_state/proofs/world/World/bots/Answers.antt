use Rattle.std.proofs.Common.{◌∙◌, refl, arith}
use Rattle.amoebot_state.proofs.Stored.{counted}
use Rattle.amoebot_state.proofs.world.World.bots.Goals as goal

pub overflow_cast-result : goal.overflow_cast-result
overflow_cast-result c =
    let n = counted c.self.inside.frame _ c.self.inside.amoebots.items _ (c.len.ensures ∙ c.self.inside.amoebots.ok.0) refl in
    record { fits = omega (arith, n, c.self.invariant.few) }

pub returns-clause-value : goal.returns-clause-value
returns-clause-value c =
    counted c.self.inside.frame c.args.self.now c.self.inside.amoebots.items _ (c.len.ensures ∙ c.self.inside.amoebots.ok.0) c.self.view_is

pub returns-clause-few : goal.returns-clause-few
returns-clause-few c =
    let n = counted c.self.inside.frame _ c.self.inside.amoebots.items _ (c.len.ensures ∙ c.self.inside.amoebots.ok.0) refl in
    omega (arith, n, c.self.invariant.few)
