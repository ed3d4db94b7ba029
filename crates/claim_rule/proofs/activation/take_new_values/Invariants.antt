use Rattle.std.proofs.Common.{◌≡◌, take}
use Rattle.amoebot_state.specs.Pairs.{plain_patch}
use Rattle.claim_rule.proofs.activation.take_new_values.Given as goal

abbrev pub invariant-loop-name : goal.invariant-loop-name
invariant-loop-name l = l.changes.items ≡ plain_patch (take l.name-index l.triples)
