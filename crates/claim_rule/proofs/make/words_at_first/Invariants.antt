use Rattle.std.proofs.Common.{◌≡◌, ◌*◌, ◌++◌}
use Rattle.claim_rule.proofs.FirstSlots.{node_words, zeros}
use Rattle.claim_rule.proofs.make.words_at_first.Given as goal

abbrev pub invariant-loop-number : goal.invariant-loop-number
invariant-loop-number l = (l.area ≡ l.world.area) × (l.words.items ≡ node_words l.world l.number)

abbrev pub invariant-loop-id : goal.invariant-loop-id
invariant-loop-id l = l.words.items ≡ node_words l.world (l.world.area.w * l.world.area.h) ++ zeros l._id
