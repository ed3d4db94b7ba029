use Rattle.std.proofs.Common.{refl}
use Rattle.shape_checks.proofs.Circles.{no_start_is_arc}
use Rattle.shape_checks.proofs.arc.is_arc.Goals as goal

pub returns-in-None : goal.returns-in-None
returns-in-None c = (λ _. no_start_is_arc c.args.circle.now c.in-None.ensures.none c.requires.some, λ _. refl)
