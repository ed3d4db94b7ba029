use Rattle.std.proofs.Common.{◌≡◌, drop}
use Rattle.amoebot_state.specs.Pairs.{spot_in}
use Rattle.amoebot_state.proofs.found.spot_in.Given as goal

abbrev pub invariant-loop-name : goal.invariant-loop-name
invariant-loop-name l = spot_in l.cells l.node ≡ spot_in (drop l.name-index l.cells) l.node
