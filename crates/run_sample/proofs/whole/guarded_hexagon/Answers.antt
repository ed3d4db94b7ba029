use Rattle.run_sample.proofs.Worlds.{guarded}
use Rattle.run_sample.proofs.whole.guarded_hexagon.Goals as goal

pub returns : goal.returns
returns c = guarded c.in_ok-program.program c.with_guard.result c.in_ok-program.ensures c.with_guard.ensures
