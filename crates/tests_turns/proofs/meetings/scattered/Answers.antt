use Rattle.std.proofs.Common.{◌+◌, ◌∷◌, [], length, length-append, ap, sym, subst, ◌∙◌}
use Rattle.std.specs.List.{All}
use Rattle.std.proofs.lemmas.List.Elements.{All-push}
use Rattle.amoebot_state.specs.Refusals.{IsBotInRange}
use Rattle.tests_turns.proofs.meetings.scattered.Goals as goal

-- src/meeting.rt
pub loop-number-preserved : goal.loop-number-preserved
loop-number-preserved c =
    let pushed = c.in_ok-push.ensures.items in
    let bots = c.loop-number.bots.items in (
      subst (All IsBotInRange) (sym pushed) (All-push IsBotInRange bots c.standing.result c.loop-number.invariant.0 c.standing.ensures),
      ap length pushed ∙ length-append bots (c.standing.result ∷ []) ∙ ap (λ n. n + 1) c.loop-number.invariant.1,
    )
