use Rattle.std.proofs.Common.{sym, ◌∙◌}
use Rattle.amoebot_state.specs.declared.verdict.Verdict.TheVariants as decision
use Rattle.claim_core.specs.declared.state.Look.TheVariants as look
use Rattle.activation.proofs.DecisionLemmas.{phase_is}
use Rattle.activation.proofs.turn.activate.Goals as goal

pub place-seen-requires-in-Failed-clause-looks : goal.place-seen-requires-in-Failed-clause-looks
place-seen-requires-in-Failed-clause-looks g c κs within =
    (look.Failed c.in-Failed.failure, phase_is g.D.Decider.verdict c.args.field.now c.args.seat c.in-Ok.claimed c.requires.field c.in-Ok.ensures.claimed _ _ (decision.Failed c.in-Failed.failure) c.decider.ensures c.found.ensures (sym c.in-Failed.is ∙ c.decide.ensures))
