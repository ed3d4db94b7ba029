use Rattle.std.proofs.Common.{◌≡◌, ◌≤◌, ◌<◌, ◌-◌, vec_len}
use Rattle.std.specs.List.{All}
use Rattle.text_tokens.specs.Reading.{is_number, repeated}
use Rattle.text_tokens.proofs.LoopLemmas.{StillReads}
use Rattle.claim_core.specs.Limits.{most_ids}
use Rattle.shape_text.specs.Parts.{one_more}
use Rattle.schedule_text.specs.Readers.{an_id, all_ids}
use Rattle.schedule_text.proofs.lists.read_ids.Given as goal

abbrev pub invariant-loop-ids : goal.invariant-loop-ids
invariant-loop-ids l = record {
  reads : StillReads (all_ids l.fn.bots) l.fn.tokens l.ids.items (repeated is_number (an_id l.fn.bots) one_more l.before) l.tokens;
  same : vec_len l.ids ≡ l.before;
  some : 0 < l.before;
  few : l.before ≤ most_ids;
  there : All (λ id. id < l.fn.bots) l.ids.items;
}

abbrev pub decreases-loop-ids : goal.decreases-loop-ids
decreases-loop-ids l = most_ids - l.before
