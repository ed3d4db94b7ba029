use Rattle.std.proofs.Common.{arith}
use Rattle.std.proofs.lemmas.Int.{ints}
use Rattle.shape_checks.proofs.Discs.{rows_more}
use Rattle.shape_checks.proofs.disc.is_filled.Goals as goal

pub loop-up-preserved : goal.loop-up-preserved
loop-up-preserved c = rows_more _ c.args.centre _ c.args.radius c.loop-up.up (omega (arith, ints)) (c.is_row_filled.ensures.0 c.if-not-is_row_filled.false) c.loop-up.invariant
