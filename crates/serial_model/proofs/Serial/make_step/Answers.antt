use Rattle.std.proofs.Common.{subst}
use Rattle.std.specs.Prelude.{IfNone}
use Rattle.amoebot_state.specs.Configs.{Config}
use Rattle.serial_model.specs.Replays.{IsNoStep}
use Rattle.serial_model.proofs.Serial.make_step.Goals as goal

pub returns-in-Some-clause-none : goal.returns-in-Some-clause-none
returns-in-Some-clause-none g c =
    subst (λ (w : Config). IfNone c.make_step_on.result (IsNoStep g.E.EntryForm.form (g.D.Decider.verdict c.args.decider.now) w c.args.told.now)) c.self.view_is c.make_step_on.ensures.none

pub returns-in-None-clause-none : goal.returns-in-None-clause-none
returns-in-None-clause-none g c =
    subst (λ (w : Config). IfNone c.make_step_on-in-None.result (IsNoStep g.E.EntryForm.form (g.D.Decider.verdict c.args.decider.now) w c.args.told.now)) c.self.view_is c.make_step_on-in-None.ensures.none
