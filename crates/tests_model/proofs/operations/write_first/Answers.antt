use Rattle.std.proofs.Common.{to_z, of_z, w32}
use Rattle.model_ops.proofs.Carried.{written_unmoved}
use Rattle.tests_model.proofs.operations.write_first.Goals as goal

pub returns : goal.returns
returns c = λ unmoved. written_unmoved c.args.site.now c.write.new.self c.args.port 0 (to_z w32 (of_z w32 c.args.value)) unmoved c.write.ensures.after
