use Rattle.std.proofs.Common.{ap, sym, ◌∙◌, arith}
use Rattle.run_sample.specs.Callers.{ids_below}
use Rattle.run_sample.proofs.Ids.{no_ids, id_comes, id_passes}
use Rattle.run_sample.proofs.lists.ids_of.Goals as goal
use Rattle.run_sample.proofs.lists.ids_of.Goals.{then-id-caller+in_ok-push, else-id-caller}

pub loop-id-init : goal.loop-id-init
loop-id-init c = c.new-ids.ensures.items ∙ sym (no_ids c.args.caller)

pub loop-id-preserved : goal.loop-id-preserved
loop-id-preserved c = elim c.if-id-caller.branch [
  | then-id-caller+in_ok-push w ↦ id_comes c.args.caller c.loop-id.id c.loop-id.ids.items _ c.loop-id.invariant w.if-id-caller.true (ap (λ v. v.items) w.ids-is ∙ w.in_ok-push.ensures.items)
  | else-id-caller w ↦ ap (λ v. v.items) w.ids-is ∙ id_passes c.args.caller c.loop-id.id c.loop-id.ids.items c.loop-id.invariant w.if-id-caller.false
]

pub returns : goal.returns
returns c = c.loop-id.invariant ∙ ap (λ n. ids_below n c.args.caller) (omega arith)
