use Rattle.std.proofs.Common.{◌∙◌, ap, sym, ℕ}
use Rattle.std.specs.declared.result.Result.{Result}
use Rattle.amoebot_state.specs.declared.verdict.Failure.{Failure}
use Rattle.amoebot_state.specs.declared.verdict.Moved.TheVariants as moved
use Rattle.amoebot_state.specs.declared.verdict.Verdict.TheVariants as verdict
use Rattle.std.specs.Prelude.{pos}
use Rattle.std.specs.declared.option.Option.TheVariants.{None}
use Rattle.amoebot_state.specs.Configs.{Config}
use Rattle.amoebot_state.specs.Zones.{shown_alone}
use Rattle.model_ops.specs.Operations.{write}
use Rattle.model_ops.proofs.Decided.{led, led_reaches, led_decides, failed_decides}
use Rattle.tests_claims.specs.DraggingLaws.{noting, performs_note}
use Rattle.tests_claims.proofs.core_fixtures.note.Goals as goal

pub patch-requires : goal.patch-requires
patch-requires c =
    let s = c.args.found.now in
    let op : Config → ℕ → Result Config Failure = λ d i. write d i None 0 (pos 1) in
    led_reaches s op noting c.write.new.self (performs_note (write (shown_alone s) s.bot None 0 (pos 1))) (led s op c.new-site.result c.write.new.self c.new-site.ensures (sym c.in-Ok.ensures.value) c.in-Ok.ensures.after)

pub returns-in-Ok : goal.returns-in-Ok
returns-in-Ok c =
    let s = c.args.found.now in
    let op : Config → ℕ → Result Config Failure = λ d i. write d i None 0 (pos 1) in
    ap (λ ps. verdict.Change (record { action = 1; moved = moved.None; patch = ps })) c.patch.ensures
    ∙ led_decides s op 1 moved.None c.write.new.self (led s op c.new-site.result c.write.new.self c.new-site.ensures (sym c.in-Ok.ensures.value) c.in-Ok.ensures.after)

pub returns-in-Err : goal.returns-in-Err
returns-in-Err c =
    let s = c.args.found.now in
    failed_decides s (λ d i. write d i None 0 (pos 1)) 1 moved.None c.new-site.result c.in-Err.failure c.new-site.ensures (sym c.in-Err.ensures.value)
