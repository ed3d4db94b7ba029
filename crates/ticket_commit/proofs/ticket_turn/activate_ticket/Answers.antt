use Rattle.std.proofs.Common.{sym, subst, ◌∙◌}
use Rattle.amoebot_state.specs.declared.verdict.Verdict.TheVariants as decision
use Rattle.claim_core.specs.declared.state.Look.TheVariants as look
use Rattle.claim_rule.specs.Tokens.{FieldOf, Token, IsOf}
use Rattle.activation.proofs.DecisionLemmas.{phase_is}
use Rattle.ticket_commit.proofs.ticket_turn.activate_ticket.Goals as goal

-- src/activating.rt
pub place-seen-requires-in-Failed-clause-looks : goal.place-seen-requires-in-Failed-clause-looks
place-seen-requires-in-Failed-clause-looks g c κs within =
    let of = subst (λ (p : FieldOf g.row.D.Denot × Token g.row.D.Denot). IsOf p.0 p.1) (λ i. (sym c.field.view_is i, sym c.seat.view_is i)) c.requires.field in
    (look.Failed c.in-Failed.failure, phase_is g.D.Decider.verdict c.field.inside.field c.seat.inside.seat c.in-Ok.claimed of c.in-Ok.ensures.claimed _ _ (decision.Failed c.in-Failed.failure) c.decider.ensures c.found.ensures (sym c.in-Failed.is ∙ c.decide.ensures))
