use Rattle.std.proofs.Common.{◌≡◌, take}
use Rattle.amoebot_state.specs.Pairs.{plain_patch}
use Rattle.amoebot_state.specs.Storage.{put_bots, put_spots}
use Rattle.amoebot_state.proofs.grid.put_all.Given as goal

abbrev pub invariant-loop-triple : goal.invariant-loop-triple
invariant-loop-triple l = (l.amoebots.items ≡ put_bots l.initial.amoebots.items (plain_patch (take l.triple-index l.triples))) × (l.occupants.items ≡ put_spots l.area l.initial.occupants.items (plain_patch (take l.triple-index l.triples)))
