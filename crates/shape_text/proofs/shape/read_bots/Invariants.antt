use Rattle.std.proofs.Common.{◌≡◌, ◌≤◌, ◌-◌, map, vec_len}
use Rattle.std.specs.List.{All}
use Rattle.text_tokens.specs.Reading.{repeated}
use Rattle.text_tokens.proofs.LoopLemmas.{StillReads}
use Rattle.amoebot_state.specs.Limits.{most_bots}
use Rattle.amoebot_state.specs.Refusals.{IsBotInRange}
use Rattle.shape_text.specs.Parts.{one_more}
use Rattle.shape_text.specs.Shapes.{is_bot}
use Rattle.shape_text.specs.Readers.{a_bot_line, all_bots}
use Rattle.shape_text.specs.Views as view
use Rattle.shape_text.proofs.shape.read_bots.Given as goal

abbrev pub invariant-loop-found : goal.invariant-loop-found
invariant-loop-found l = record {
  reads : StillReads (all_bots l.vars) l.fn.tokens (map view.bot_view l.found.items) (repeated is_bot (a_bot_line l.vars) one_more l.before) l.tokens;
  few : l.before ≤ most_bots;
  same : vec_len l.found ≡ l.before;
  in_range : All (λ b. IsBotInRange b.bot) l.found.items;
}

abbrev pub decreases-loop-found : goal.decreases-loop-found
decreases-loop-found l = most_bots - l.before
