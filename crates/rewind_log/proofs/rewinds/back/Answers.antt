use Rattle.std.proofs.Common.{◌∙◌, sym, subst}
use Rattle.std.proofs.lemmas.Bool.{both_ways}
use Rattle.amoebot_state.specs.Pairs.{Triples, plain_patch}
use Rattle.amoebot_state.specs.Patches.{HasPatched, IsPatched}
use Rattle.amoebot_state.proofs.Patched.{patched_is_unique}
use Rattle.rewind_log.proofs.StepBacks.{is_back, leads_again, none_without_verdict, none_without_world}
use Rattle.rewind_log.proofs.rewinds.back.Goals as goal

pub returns-then-not-can_apply-clause-none : goal.returns-then-not-can_apply-clause-none
returns-then-not-can_apply-clause-none g c =
    let new = c.args.world.now in
    let e = c.args.entry.now in
    none_without_world (g.D.Decider.verdict c.args.decider.now) c.old_values_are_found.ensures new e
    (λ led. both_ways _ c.if-not-can_apply.true (c.can_apply.ensures.1 (subst (λ (ts : Triples). HasPatched new (plain_patch ts)) (sym c.reversed-before.ensures) led)))

pub returns-then-decides_entry-clause-step : goal.returns-then-decides_entry-clause-step
returns-then-decides_entry-clause-step g c =
    let new = c.args.world.now in
    let e = c.args.entry.now in
    let led = subst (λ (ts : Triples). IsPatched new (plain_patch ts) c.apply.new.self) c.reversed-before.ensures c.apply.ensures in
    is_back (g.D.Decider.verdict c.args.decider.now) c.old_values_are_found.ensures new e c.apply.new.self c.keeps.ensures.valid (c.holds.ensures.0 c.if-not-holds.false) led
    (led.same.ids e.bot ∙ c.keeps.ensures.no_gaps e.bot c.requires) (c.decides_entry.ensures.0 c.if-decides_entry.true)

pub apply-requires-2 : goal.apply-requires-2
apply-requires-2 g c =
    let new = c.args.world.now in
    let e = c.args.entry.now in
    let led = subst (λ (ts : Triples). IsPatched new (plain_patch ts) c.apply.new.self) c.reversed-before.ensures c.apply.ensures in
    (new, leads_again c.apply.new.self new e.patch c.keeps.ensures.valid (c.holds.ensures.0 c.if-not-holds.false) led)

pub returns-clause-none : goal.returns-clause-none
returns-clause-none g c =
    let new = c.args.world.now in
    let e = c.args.entry.now in
    let led = subst (λ (ts : Triples). IsPatched new (plain_patch ts) c.apply.new.self) c.reversed-before.ensures c.apply.ensures in
    none_without_verdict (g.D.Decider.verdict c.args.decider.now) c.old_values_are_found.ensures new e c.apply.new.self led
    (λ _ decided. both_ways _ c.if-decides_entry.false (c.decides_entry.ensures.1 decided))

pub returns-clause-stays : goal.returns-clause-stays
returns-clause-stays g c =
    let new = c.args.world.now in
    let e = c.args.entry.now in
    let led = subst (λ (ts : Triples). IsPatched new (plain_patch ts) c.apply.new.self) c.reversed-before.ensures c.apply.ensures in
    patched_is_unique c.apply.new.self c.apply-2.new.self new (plain_patch e.patch) c.apply-2.ensures (leads_again c.apply.new.self new e.patch c.keeps.ensures.valid (c.holds.ensures.0 c.if-not-holds.false) led)
