use Rattle.std.proofs.Common.{◌≡◌, drop}
use Rattle.amoebot_state.specs.Pairs.{body_in}
use Rattle.amoebot_state.proofs.found.body_in.Given as goal

abbrev pub invariant-loop-name : goal.invariant-loop-name
invariant-loop-name l = body_in l.cells l.id ≡ body_in (drop l.name-index l.cells) l.id
