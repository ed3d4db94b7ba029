use Rattle.std.proofs.Common.{◌-ℤ◌, arith}
use Rattle.std.proofs.lemmas.Int.{ints}
use Rattle.tri_lattice.proofs.Rings.{before_amid, at_amid, behind_amid}
use Rattle.tri_lattice.proofs.area.is_amid_side.Goals as goal

pub returns-then-into-lt0 : goal.returns-then-into-lt0
returns-then-into-lt0 c = before_amid (c.args.at -ℤ c.args.from) c.args.side (omega (arith, ints))

pub returns-then-into-gt0 : goal.returns-then-into-gt0
returns-then-into-gt0 c =
    behind_amid (c.args.at -ℤ c.args.from) c.args.side _ _ (omega (arith, ints)) (omega arith) c.from-then-into-gt0.ensures

pub returns-else-into-gt0 : goal.returns-else-into-gt0
returns-else-into-gt0 c = at_amid (c.args.at -ℤ c.args.from) c.args.side _ (omega (arith, ints)) (omega arith)
