use Rattle.std.proofs.Common.{◌≡◌, ◌≤◌, ◌-◌, true, map, vec_len}
use Rattle.text_tokens.specs.Reading.{repeated}
use Rattle.text_tokens.proofs.LoopLemmas.{StillReads}
use Rattle.amoebot_state.specs.Limits.{most_walls}
use Rattle.shape_text.specs.Parts.{one_more}
use Rattle.shape_text.specs.Shapes.{is_wall_word}
use Rattle.shape_text.specs.Readers.{a_wall_line, all_walls}
use Rattle.shape_text.specs.Views as view
use Rattle.shape_text.proofs.shape.read_some_walls.Given as goal

abbrev pub invariant-loop-found : goal.invariant-loop-found
invariant-loop-found l = record {
  reads : StillReads (all_walls true) l.fn.tokens (map view.wall_view l.found.items) (repeated is_wall_word a_wall_line one_more l.before) l.tokens;
  few : l.before ≤ most_walls;
  same : vec_len l.found ≡ l.before;
}

abbrev pub decreases-loop-found : goal.decreases-loop-found
decreases-loop-found l = most_walls - l.before
