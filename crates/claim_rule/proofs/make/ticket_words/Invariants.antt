use Rattle.std.proofs.Common.{◌≡◌}
use Rattle.claim_rule.proofs.FirstSlots.{zeros}
use Rattle.claim_rule.proofs.make.ticket_words.Given as goal

abbrev pub invariant-loop-cell : goal.invariant-loop-cell
invariant-loop-cell l = l.words.items ≡ zeros l._cell
