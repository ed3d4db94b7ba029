use Rattle.std.proofs.Common.{◌-ℤ◌, arith, sym}
use Rattle.std.proofs.lemmas.Int.{ints}
use Rattle.tri_lattice.proofs.Boxes.{place_at, none_before, none_past}
use Rattle.tri_lattice.proofs.area.side_offset.Goals as goal

pub returns-then-into-lt0-clause-value : goal.returns-then-into-lt0-clause-value
returns-then-into-lt0-clause-value c = none_before (c.args.at -ℤ c.args.from) c.args.side (omega (arith, ints))

pub returns-then-into-from-clause-value : goal.returns-then-into-from-clause-value
returns-then-into-from-clause-value c = sym (place_at (c.args.at -ℤ c.args.from) c.args.side _ (omega (arith, ints)) (omega arith))

pub returns-else-into-from-clause-value : goal.returns-else-into-from-clause-value
returns-else-into-from-clause-value c = none_past (c.args.at -ℤ c.args.from) c.args.side (omega (arith, ints))
