use Rattle.std.proofs.Common.{◌∙◌, ap, sym, ℕ, Option}
use Rattle.std.specs.Prelude.{unwrap_or, if◌then◌else◌}
use Rattle.std.specs.declared.result.Result.{Result}
use Rattle.amoebot_state.specs.declared.bot.Bot.{Bot}
use Rattle.amoebot_state.specs.declared.verdict.Failure.{Failure}
use Rattle.amoebot_state.specs.declared.verdict.Moved.TheVariants as moved
use Rattle.amoebot_state.specs.declared.verdict.Verdict.TheVariants as verdict
use Rattle.amoebot_state.specs.Ports.{is_contracted}
use Rattle.amoebot_state.specs.Configs.{Config, blank}
use Rattle.amoebot_state.specs.Zones.{shown_alone}
use Rattle.model_ops.specs.Expansion.{verdict_by}
use Rattle.model_ops.specs.Operations.{expand}
use Rattle.model_ops.proofs.Decided.{led, led_reaches, led_decides, failed_decides}
use Rattle.model_ops.proofs.ExpansionLaws.{expanding}
use Rattle.small_worlds.proofs.programs.ExpanderDecider.decide.Goals as goal

pub patch-requires : goal.patch-requires
patch-requires c =
    let s = c.args.found.now in
    let p = c.args.self.now.port in
    let op : Config → ℕ → Result Config Failure = λ d i. expand d i p in
    led_reaches s op (expanding p) c.expand.new.self (λ d e. e) (led s op c.new-site.result c.expand.new.self c.new-site.ensures (sym c.in-Ok.ensures.value) c.in-Ok.ensures.after)

pub returns-in-Ok : goal.returns-in-Ok
returns-in-Ok c =
    let s = c.args.found.now in
    let p = c.args.self.now.port in
    let op : Config → ℕ → Result Config Failure = λ d i. expand d i p in
    let contracted = ap (λ (o : Option Bot). is_contracted (unwrap_or o blank)) (sym c.own.ensures.value) ∙ sym c.if-not-is_contracted.ensures in
    ap (λ ps. verdict.Change (record { action = 0; moved = moved.Expand p; patch = ps })) c.patch.ensures
    ∙ led_decides s op 0 (moved.Expand p) c.expand.new.self (led s op c.new-site.result c.expand.new.self c.new-site.ensures (sym c.in-Ok.ensures.value) c.in-Ok.ensures.after)
    ∙ sym (ap (λ t. if t then verdict_by (shown_alone s) 0 (moved.Expand p) (expand (shown_alone s) s.bot p) else verdict.Idle) contracted)

pub returns-in-Err : goal.returns-in-Err
returns-in-Err c =
    let s = c.args.found.now in
    let p = c.args.self.now.port in
    let contracted = ap (λ (o : Option Bot). is_contracted (unwrap_or o blank)) (sym c.own.ensures.value) ∙ sym c.if-not-is_contracted.ensures in
    failed_decides s (λ d i. expand d i p) 0 (moved.Expand p) c.new-site.result c.in-Err.failure c.new-site.ensures (sym c.in-Err.ensures.value)
    ∙ sym (ap (λ t. if t then verdict_by (shown_alone s) 0 (moved.Expand p) (expand (shown_alone s) s.bot p) else verdict.Idle) contracted)
