use Rattle.std.proofs.Common.{◌≡◌, take}
use Rattle.amoebot_state.specs.Pairs.{plain_patch}
use Rattle.serial_model.proofs.forms.same_plain.Given as goal

abbrev pub invariant-loop-place : goal.invariant-loop-place
invariant-loop-place l = take l.place l.pairs ≡ plain_patch (take l.place l.triples)
