use Rattle.std.proofs.Common.{◌≡◌, ◌≤◌, ◌-◌, length}
use Rattle.text_tokens.specs.Reading.{repeated}
use Rattle.text_tokens.proofs.LoopLemmas.{StillReads}
use Rattle.claim_core.specs.Limits.{most_callers}
use Rattle.claim_core.specs.Turns.{HaveBots}
use Rattle.shape_text.specs.Parts.{one_more}
use Rattle.schedule_text.specs.Lists.{is_list}
use Rattle.schedule_text.specs.Readers.{a_list, lists_from}
use Rattle.schedule_text.proofs.lists.read_all_lists.Given as goal

abbrev pub invariant-loop-lists : goal.invariant-loop-lists
invariant-loop-lists l = record {
  reads : StillReads (lists_from l.bots l.turns 0) l.fn.tokens l.lists.ids (repeated is_list (a_list l.bots l.turns) one_more l.before) l.tokens;
  turns : l.lists.turns ≡ l.turns;
  same : length l.lists.ids ≡ l.before;
  few : l.before ≤ most_callers;
  there : HaveBots l.bots l.lists;
}

abbrev pub decreases-loop-lists : goal.decreases-loop-lists
decreases-loop-lists l = most_callers - l.before
