use Rattle.text_tokens.specs.Reading.{repeated, less}
use Rattle.text_tokens.specs.Groups.{is_group_pair, group_pair_in, all_group_pairs}
use Rattle.text_tokens.proofs.LoopLemmas.{StillReads}
use Rattle.text_tokens.proofs.groups.read_pairs.Given as goal

abbrev pub invariant-loop-found : goal.invariant-loop-found
invariant-loop-found l = StillReads all_group_pairs l.fn.tokens l.found.items (repeated is_group_pair group_pair_in (λ room n. less room) l.room) l.tokens

abbrev pub decreases-loop-found : goal.decreases-loop-found
decreases-loop-found l = l.room
