use Rattle.std.proofs.Common.{◌∙◌, ap, sym, Ok}
use Rattle.amoebot_state.specs.declared.bot.Bot.{Bot}
use Rattle.amoebot_state.specs.Configs.{bot_of}
use Rattle.amoebot_state.specs.Ports.{is_port}
use Rattle.model_ops.specs.Operations.{seen_over}
use Rattle.model_ops.specs.WorkingCopies.{own_id}
use Rattle.model_ops.proofs.Answered.{exit, neighbour_next, neighbour_told}
use Rattle.model_ops.proofs.Told.{bot_is}
use Rattle.model_ops.proofs.draft.Draft.peer.Goals as goal

pub returns-in_err-id : goal.returns-in_err-id
returns-in_err-id c =
    let w = c.args.self.now in
    exit _ _ c.from_residual.ensures.1 ∙ sym (neighbour_next w.reached (own_id w) c.args.port _ _ c.in_err-id.ensures.value)

pub seen_over-requires-clause-port : goal.seen_over-requires-clause-port
seen_over-requires-clause-port c =
    let w = c.args.self.now in
    ap (λ (b : Bot). is_port b c.args.port) (sym (bot_is w.reached (own_id w) _ c.own.ensures.value)) ∙ (neighbour_told w.reached (own_id w) c.args.port _ c.in_ok-id.ensures.value).0

pub returns : goal.returns
returns c =
    let w = c.args.self.now in
    let own = sym (bot_is w.reached (own_id w) _ c.own.ensures.value) in
    let other = sym (bot_is w.reached c.in_ok-id.id _ c.bot.ensures.value) in
    ap Ok (c.seen_over.ensures ∙ ap (λ (b : Bot). seen_over b c.args.port c.bot.result.now) own ∙ ap (seen_over (bot_of w.reached (own_id w)) c.args.port) other)
    ∙ sym (neighbour_next w.reached (own_id w) c.args.port _ _ c.in_ok-id.ensures.value)
