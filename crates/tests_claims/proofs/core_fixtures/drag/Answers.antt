use Rattle.std.proofs.Common.{◌∙◌, ap, sym, ℕ}
use Rattle.std.specs.declared.result.Result.{Result}
use Rattle.amoebot_state.specs.declared.verdict.Failure.{Failure}
use Rattle.amoebot_state.specs.declared.verdict.Moved.TheVariants as moved
use Rattle.amoebot_state.specs.declared.verdict.Verdict.TheVariants as verdict
use Rattle.amoebot_state.specs.Configs.{Config}
use Rattle.model_ops.specs.Operations.{pull}
use Rattle.model_ops.proofs.Decided.{led, led_reaches, led_decides, failed_decides}
use Rattle.tests_claims.specs.DraggingLaws.{pulling}
use Rattle.tests_claims.proofs.core_fixtures.drag.Goals as goal

pub patch-requires : goal.patch-requires
patch-requires c =
    let s = c.args.found.now in
    let p = c.args.port in
    let op : Config → ℕ → Result Config Failure = λ d i. pull d i p in
    led_reaches s op (pulling p) c.pull.new.self (λ d e. e) (led s op c.new-site.result c.pull.new.self c.new-site.ensures (sym c.in-Ok.ensures.value) c.in-Ok.ensures.after)

pub returns-in-Ok : goal.returns-in-Ok
returns-in-Ok c =
    let s = c.args.found.now in
    let p = c.args.port in
    let op : Config → ℕ → Result Config Failure = λ d i. pull d i p in
    ap (λ ps. verdict.Change (record { action = 0; moved = moved.Pull p; patch = ps })) c.patch.ensures
    ∙ led_decides s op 0 (moved.Pull p) c.pull.new.self (led s op c.new-site.result c.pull.new.self c.new-site.ensures (sym c.in-Ok.ensures.value) c.in-Ok.ensures.after)

pub returns-in-Err : goal.returns-in-Err
returns-in-Err c =
    let s = c.args.found.now in
    let p = c.args.port in
    failed_decides s (λ d i. pull d i p) 0 (moved.Pull p) c.new-site.result c.in-Err.failure c.new-site.ensures (sym c.in-Err.ensures.value)
