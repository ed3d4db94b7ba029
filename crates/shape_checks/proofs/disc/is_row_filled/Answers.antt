use Rattle.std.proofs.Common.{refl, arith}
use Rattle.std.proofs.lemmas.Bool.{both_ways, false≢true}
use Rattle.std.proofs.lemmas.Int.{ints}
use Rattle.shape_checks.proofs.Discs.{row_more}
use Rattle.shape_checks.proofs.disc.is_row_filled.Goals as goal

pub returns-then-not-is_filled_at : goal.returns-then-not-is_filled_at
returns-then-not-is_filled_at c = (λ e. absurd (false≢true e), λ all. absurd (both_ways _ c.if-not-is_filled_at.true (c.is_filled_at.ensures.1 (λ near. all _ (omega (arith, ints)) near))))

pub loop-right-preserved : goal.loop-right-preserved
loop-right-preserved c = row_more _ c.args.centre _ _ c.args.radius c.loop-right.right (omega (arith, ints)) refl (c.is_filled_at.ensures.0 c.if-not-is_filled_at.false) c.loop-right.invariant
