use Rattle.std.proofs.Common.{arith}
use Rattle.ring_guard.proofs.Tables.{IsOneArc-found}
use Rattle.ring_guard.proofs.one_arc.Goals as goal

pub returns-then-some : goal.returns-then-some
returns-then-some c =
    IsOneArc-found c.args.ring _ _ _ c.if-some.true (omega arith) c.loop-i.invariant.some c.loop-i.invariant.ends
