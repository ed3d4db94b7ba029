use Rattle.std.proofs.Common.{◌≡◌, ◌++◌, map, take, drop}
use Rattle.claim_core.specs.Cells.{held_by}
use Rattle.claim_core.proofs.machine.record_again.Given as goal

abbrev pub invariant-loop-pair : goal.invariant-loop-pair
invariant-loop-pair l = l.held ≡ map (λ p. (p.0, held_by l.world p.0)) (take l.pair-index l.fn.held) ++ drop l.pair-index l.fn.held
