use Rattle.std.proofs.Common.{map, length}
use Rattle.text_tokens.specs.Reading.{repeated}
use Rattle.text_tokens.specs.Groups.{is_group, group_in, same_state, all_groups}
use Rattle.text_tokens.specs.GroupViews.{written_group}
use Rattle.text_tokens.proofs.LoopLemmas.{StillReads}
use Rattle.text_tokens.proofs.groups.read_group_list.Given as goal

abbrev pub invariant-loop-found : goal.invariant-loop-found
invariant-loop-found l = StillReads all_groups l.fn.tokens (map written_group l.found.items) (repeated is_group group_in same_state tt) l.tokens

abbrev pub decreases-loop-found : goal.decreases-loop-found
decreases-loop-found l = length l.tokens.ahead
