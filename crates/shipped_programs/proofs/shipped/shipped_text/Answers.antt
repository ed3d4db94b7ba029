use Rattle.std.proofs.Common.{refl}
use Rattle.shipped_programs.specs.declared.shipped.Shipped.TheVariants.{Hexagon}
use Rattle.shipped_programs.proofs.shipped.shipped_text.Goals as goal

pub returns-in-Hexagon-clause-some : goal.returns-in-Hexagon-clause-some
returns-in-Hexagon-clause-some c = (Hexagon, rw c.in-Hexagon.is at c.in_ok-named.ensures.some, refl)
