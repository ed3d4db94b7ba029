use Rattle.std.proofs.Common.{◌≡◌, ◌∙◌, true, ap, sym, subst}
use Rattle.tri_lattice.specs.Lattice.{IsNear}
use Rattle.amoebot_state.specs.declared.bot.Bot.{Bot}
use Rattle.amoebot_state.specs.Ports.{behind, is_own}
use Rattle.amoebot_state.specs.Configs.{bot_of}
use Rattle.model_ops.specs.WorkingCopies.{own_id}
use Rattle.model_ops.proofs.Answered.{neighbour_told}
use Rattle.model_ops.proofs.Members.{near_own}
use Rattle.model_ops.proofs.Told.{bot_is, occupant_told}
use Rattle.model_ops.proofs.draft.Draft.push.Goals as goal

pub grow-requires-clause-near : goal.grow-requires-clause-near
grow-requires-clause-near c =
    let w = c.args.self.now in
    let n = c.in_ok-id.id in
    let v = behind (bot_of w.reached (own_id w)) c.args.port in
    let own : is_own (bot_of w.reached n) v ≡ true = (occupant_told w.reached v n (neighbour_told w.reached (own_id w) c.args.port n c.in_ok-id.ensures.value).1).1 in
    let other = bot_is w.reached n _ c.bot.ensures.value in
    subst IsNear (ap (λ (b : Bot). behind b c.args.port) (bot_is w.reached (own_id w) _ c.own-2.ensures.value) ∙ sym c.behind-node.ensures) (near_own c.bot.result.now v c.bot.ensures.in_range (ap (λ (b : Bot). is_own b v) (sym other) ∙ own))
