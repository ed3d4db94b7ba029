use Rattle.model_ops.proofs.Carried.{opened_unmoved, moved_reaches}
use Rattle.tests_model.proofs.operations.activation.Goals as goal

pub loop-port-init : goal.loop-port-init
loop-port-init c = opened_unmoved c.new-site.result c.args.found.now c.new-site.ensures

pub loop-port-preserved : goal.loop-port-preserved
loop-port-preserved c = c.write_first.ensures c.loop-port.invariant

pub patch-requires : goal.patch-requires
patch-requires c = moved_reaches c.loop-port.site c.carry_out.new.site c.args.guard c.args.moved c.loop-port.invariant c.carry_out.ensures.after
