use Rattle.std.proofs.Common.{◌∙◌, ap, sym, Ok}
use Rattle.amoebot_state.specs.declared.bot.Bot.{Bot}
use Rattle.amoebot_state.specs.Configs.{bot_of}
use Rattle.amoebot_state.specs.Ports.{is_port}
use Rattle.model_ops.specs.Operations.{seen_over}
use Rattle.model_ops.specs.WorkingCopies.{own_id}
use Rattle.model_ops.proofs.Answered.{exit, neighbour_next, neighbour_told}
use Rattle.model_ops.proofs.Drafts.{bot_here, own_here, owner_found, owner_is}
use Rattle.model_ops.proofs.Told.{bot_is}
use Rattle.model_ops.proofs.site.Site.peer.Goals as goal

pub returns-in_err-id-in-None : goal.returns-in_err-id-in-None
returns-in_err-id-in-None c =
    let s = c.self.inside in
    let w = c.args.self.now in
    let owner = owner_is s.found.now s.own s.draft w c.self.invariant c.in-None.is c.self.view_is c.args.port _ _ c.behind.ensures c.in_err-id-in-None.ensures in
    exit _ _ c.from_residual.ensures.1 ∙ sym (neighbour_next w.reached (own_id w) c.args.port _ _ owner)

pub body_near-bot-requires-clause-there : goal.body_near-bot-requires-clause-there
body_near-bot-requires-clause-there c =
    let s = c.self.inside in
    owner_found s.found.now s.own s.draft c.args.self.now c.self.invariant c.in-None.is c.self.view_is c.args.port _ _ c.behind.ensures c.in_ok-id-in-None.ensures

pub seen_over-requires-clause-port : goal.seen_over-requires-clause-port
seen_over-requires-clause-port c =
    let s = c.self.inside in
    let w = c.args.self.now in
    let owner = owner_is s.found.now s.own s.draft w c.self.invariant c.in-None.is c.self.view_is c.args.port _ _ c.behind.ensures c.in_ok-id-in-None.ensures in
    let own = bot_is w.reached (own_id w) _ (own_here s.found.now s.own s.draft w c.self.invariant c.in-None.is c.self.view_is) in
    ap (λ (b : Bot). is_port b c.args.port) (sym own) ∙ (neighbour_told w.reached (own_id w) c.args.port _ owner).0

pub returns-in_ok-id-in-None : goal.returns-in_ok-id-in-None
returns-in_ok-id-in-None c =
    let s = c.self.inside in
    let w = c.args.self.now in
    let owner = owner_is s.found.now s.own s.draft w c.self.invariant c.in-None.is c.self.view_is c.args.port _ _ c.behind.ensures c.in_ok-id-in-None.ensures in
    let own = sym (bot_is w.reached (own_id w) _ (own_here s.found.now s.own s.draft w c.self.invariant c.in-None.is c.self.view_is)) in
    let other = sym (bot_here s.found.now s.own s.draft w c.self.invariant c.in-None.is c.self.view_is c.in_ok-id-in-None.id _ c.body_near-bot.ensures.value) in
    ap Ok (c.seen_over.ensures ∙ ap (λ (b : Bot). seen_over b c.args.port c.body_near-bot.result.now) own ∙ ap (seen_over (bot_of w.reached (own_id w)) c.args.port) other)
    ∙ sym (neighbour_next w.reached (own_id w) c.args.port _ _ owner)
