use Rattle.std.proofs.Common.{◌≡◌, ◌∙◌, ℕ, true, false, sym}
use Rattle.text_tokens.specs.Cursor.{Cursor, next_passes}
use Rattle.text_tokens.specs.Reading.{pure}
use Rattle.text_tokens.proofs.Rows.{Left, all_left, first_left, second_left, gives_left}
use Rattle.schedule_text.specs.Schedules.{is_times}
use Rattle.schedule_text.specs.Readers.{its_times, any_times}
use Rattle.schedule_text.proofs.schedule.read_any_times.Goals as goal

module _ (before : ℕ) (here : Cursor) where
  with_times : next_passes is_times here.ahead ≡ true → Left (any_times before) here (its_times before) here
  unfolding any_times
  with_times e = first_left is_times (its_times before) (pure 1) (all_left (any_times before) here) e

  no_times : next_passes is_times here.ahead ≡ false → Left (any_times before) here (pure 1) here
  unfolding any_times
  no_times e = second_left is_times (its_times before) (pure 1) (all_left (any_times before) here) e

pub returns-then-not-is_next-clause-reads : goal.returns-then-not-is_next-clause-reads
returns-then-not-is_next-clause-reads c = let l = no_times c.args.before c.args.tokens.now (sym c.is_next.ensures ∙ c.if-not-is_next.true) in (l.reads, l.stays)

pub returns-clause-reads : goal.returns-clause-reads
returns-clause-reads c = gives_left (λ (n : ℕ). n) c.read_times.result c.read_times.new.tokens (with_times c.args.before c.args.tokens.now (sym c.is_next.ensures ∙ c.if-not-is_next.false)) c.read_times.ensures.reads
