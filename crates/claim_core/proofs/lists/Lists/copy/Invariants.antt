use Rattle.std.proofs.Common.{◌≡◌, take}
use Rattle.claim_core.proofs.lists.Lists.copy.Given as goal

abbrev pub invariant-loop-ids : goal.invariant-loop-ids
invariant-loop-ids l = l.lists ≡ record { turns = l.self.turns; ids = take l.ids-index l.self.ids }
