use Rattle.std.proofs.Common.{Some, ap, sym, ◌∙◌}
use Rattle.std.proofs.lemmas.Option.{slice_get-get_or}
use Rattle.amoebot_state.specs.declared.verdict.Entry.{Entry}
use Rattle.claim_rule.proofs.Closes.{follows}
use Rattle.claim_rule.proofs.close.apply_entries.Goals as goal

-- src/close.rt
pub loop-entry-preserved : goal.loop-entry-preserved
loop-entry-preserved g c =
    let inv = c.loop-entry.invariant in
    (inv.0, follows (g.D.Decider.verdict c.args.decider.now) c.loop-entry.world c.apply.new.self inv.0 c.args.entries.now c.loop-entry.entry-index c.entry-item.result (slice_get-get_or c.args.entries.now c.loop-entry.entry-index c.entry-item.result c.loop-entry-test.true ∙ ap (λ (e : Entry). Some e) (sym c.entry-item.is)) inv.1 c.apply.ensures, inv.2)
