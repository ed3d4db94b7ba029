use Rattle.std.proofs.Common.{◌∙◌, ◌||◌, not, ap, sym}
use Rattle.std.proofs.lemmas.Bool.Decides.{same_from_decides}
use Rattle.ring_guard.specs.Rings.{is_one_arc, ring_in}
use Rattle.amoebot_state.specs.Occupied.{occupied}
use Rattle.model_ops.proofs.OneArcs.{one_arc_test_is_one_arc}
use Rattle.model_ops.proofs.draft.Draft.may_leave.Goals as goal

pub returns-else-not-guard : goal.returns-else-not-guard
returns-else-not-guard c =
    let ring = ring_in (occupied c.args.self.now.reached) c.args.node in
    same_from_decides c.one_arc.result (is_one_arc c.occupied_round.result) c.one_arc.ensures (one_arc_test_is_one_arc c.occupied_round.result)
    ∙ ap (λ g. not g || is_one_arc c.occupied_round.result) (sym c.if-not-guard.false)
    ∙ ap (λ xs. not c.args.guard || is_one_arc xs) c.occupied_round.ensures
