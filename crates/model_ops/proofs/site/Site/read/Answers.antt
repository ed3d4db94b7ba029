use Rattle.std.proofs.Common.{◌∙◌, ap, sym, Ok, ℕ, Result}
use Rattle.std.specs.Prelude.{slice_index}
use Rattle.amoebot_state.specs.declared.bot.Bot.{Bot}
use Rattle.amoebot_state.specs.declared.verdict.Failure.{Failure}
use Rattle.amoebot_state.specs.Configs.{bot_of}
use Rattle.model_ops.specs.Operations.{and_then, read}
use Rattle.model_ops.specs.WorkingCopies.{own_id}
use Rattle.model_ops.proofs.Answered.{exit}
use Rattle.model_ops.proofs.Drafts.{bot_here, owner_found, owner_is}
use Rattle.model_ops.proofs.site.Site.read.Goals as goal

pub returns-in_err-id-in-Some-port : goal.returns-in_err-id-in-Some-port
returns-in_err-id-in-Some-port c =
    let s = c.self.inside in
    let w = c.args.self.now in
    let next : ℕ → Result ℕ Failure = λ n. Ok (slice_index (bot_of w.reached n).mem c.args.var) in
    exit _ _ c.from_residual.ensures.1
    ∙ ap (λ r. and_then r next) (owner_is s.found.now s.own s.draft w c.self.invariant c.in-None.is c.self.view_is c.in-Some-port.port _ _ c.behind.ensures c.in_err-id-in-Some-port.ensures)
    ∙ ap (λ q. read w.reached (own_id w) q c.args.var) (sym c.in-Some-port.is)

pub body_near-bot-requires-clause-there : goal.body_near-bot-requires-clause-there
body_near-bot-requires-clause-there c =
    let s = c.self.inside in
    owner_found s.found.now s.own s.draft c.args.self.now c.self.invariant c.in-None.is c.self.view_is c.in-Some-port.port _ _ c.behind.ensures c.in_ok-id-in-Some-port.ensures

pub returns-in_ok-id-in-Some-port : goal.returns-in_ok-id-in-Some-port
returns-in_ok-id-in-Some-port c =
    let s = c.self.inside in
    let w = c.args.self.now in
    let next : ℕ → Result ℕ Failure = λ n. Ok (slice_index (bot_of w.reached n).mem c.args.var) in
    let other = bot_here s.found.now s.own s.draft w c.self.invariant c.in-None.is c.self.view_is c.in_ok-id-in-Some-port.id _ c.body_near-bot.ensures.value in
    let owner = owner_is s.found.now s.own s.draft w c.self.invariant c.in-None.is c.self.view_is c.in-Some-port.port _ _ c.behind.ensures c.in_ok-id-in-Some-port.ensures in
    ap (λ k. let r : Result ℕ Failure = Ok (slice_index c.body_near-bot.result.now.mem k) in r) c.from-in-Some-port.ensures
    ∙ ap (λ (b : Bot). let r : Result ℕ Failure = Ok (slice_index b.mem c.args.var) in r) (sym other)
    ∙ ap (λ r. and_then r next) owner
    ∙ ap (λ q. read w.reached (own_id w) q c.args.var) (sym c.in-Some-port.is)
