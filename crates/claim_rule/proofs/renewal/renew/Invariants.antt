use Rattle.std.proofs.Common.{◌≡◌, ◌++◌, map, take, drop}
use Rattle.claim_core.specs.Machine.{patched_pair}
use Rattle.claim_rule.proofs.renewal.renew.Given as goal

abbrev pub invariant-loop-pair : goal.invariant-loop-pair
invariant-loop-pair l = l.held ≡ map (patched_pair l.patch) (take l.pair-index l.fn.held) ++ drop l.pair-index l.fn.held
