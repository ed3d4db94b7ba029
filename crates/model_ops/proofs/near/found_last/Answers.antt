use Rattle.std.proofs.Common.{arith, sym}
use Rattle.model_ops.proofs.Drafts.{body_listed}
use Rattle.model_ops.proofs.near.found_last.Goals as goal

pub returns-in-Some-clause-value : goal.returns-in-Some-clause-value
returns-in-Some-clause-value c = (body_listed c.args.found.now c.cells-cells.result.now _ c.args.id c.in-Some.bot.now _ c.cells-cells.ensures.shown c.cells-cells.ensures.value (omega arith) (sym c.in-Some.ensures)).0

pub returns-in-Some-clause-in_range : goal.returns-in-Some-clause-in_range
returns-in-Some-clause-in_range c = (body_listed c.args.found.now c.cells-cells.result.now _ c.args.id c.in-Some.bot.now _ c.cells-cells.ensures.shown c.cells-cells.ensures.value (omega arith) (sym c.in-Some.ensures)).1
