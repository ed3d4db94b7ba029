use Rattle.std.proofs.Common.{◌≡◌, ◌≤◌, ◌<◌, ◌-◌, List, length}
use Rattle.std.specs.List.{All}
use Rattle.text_tokens.specs.Reading.{is_number, repeated}
use Rattle.text_tokens.proofs.LoopLemmas.{StillReads}
use Rattle.schedule_text.specs.Schedules.{Stretch, most_steps, more_steps, steps_of}
use Rattle.schedule_text.specs.Readers.{a_stretch, stretches_from}
use Rattle.schedule_text.proofs.schedule.read_steps.Given as goal

-- some stretches were read
abbrev pub invariant-loop-steps : goal.invariant-loop-steps
invariant-loop-steps l = (found : List Stretch) × record {
  reads : StillReads (stretches_from l.callers 0) l.fn.tokens found (repeated is_number (a_stretch l.callers) more_steps l.before) l.tokens;
  are : l.steps.items ≡ steps_of found;
  same : length l.steps.items ≡ l.before;
  few : l.before ≤ most_steps;
  there : All (λ caller. caller < l.callers) l.steps.items;
}

abbrev pub decreases-loop-steps : goal.decreases-loop-steps
decreases-loop-steps l = most_steps - l.before
