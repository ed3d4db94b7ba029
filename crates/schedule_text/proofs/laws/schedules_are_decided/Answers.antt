use Rattle.std.proofs.Common.{ℕ, refl}
use Rattle.text_tokens.specs.Scan.{skip, ready, sign_len, front, scan, scan_end, ahead_of, last_of}
use Rattle.text_tokens.specs.Cursor.{same_kind}
use Rattle.text_tokens.specs.Reading.{one_within, the_line, numeral, either, elements, repeated}
use Rattle.text_tokens.proofs.CombinatorLemmas.{exact_law}
use Rattle.text_tokens.proofs.SaysLemmas.{IsSaid, says}
use Rattle.schedule_text.specs.Schedules.{StretchesFrom, IsSchedule}
use Rattle.schedule_text.specs.Readers.{a_caller, number_of_times, its_times, any_times, a_stretch, stretches_from, all_steps, a_schedule}
use Rattle.schedule_text.proofs.ScheduleLaws.{part_schedule, exact_schedule, exact_stretches_from}
use Rattle.schedule_text.proofs.laws.schedules_are_decided.Goals as goal

pub returns-clause-exact : goal.returns-clause-exact
returns-clause-exact c = exact_schedule

pub returns-clause-decided : goal.returns-clause-decided
returns-clause-decided c = λ callers. (exact_law (IsSchedule callers) (a_schedule callers) (part_schedule callers).law).1

told : (callers : ℕ) → IsSaid (IsSchedule callers) (a_schedule callers)
told callers = says (IsSchedule callers) (a_schedule callers) (exact_schedule callers)

told_behind : (before : ℕ) → IsSaid (StretchesFrom 2 before) (stretches_from 2 before)
told_behind before = says (StretchesFrom 2 before) (stretches_from 2 before) (exact_stretches_from 2 before)

pub returns-clause-read : goal.returns-clause-read
unfolding skip ready sign_len front scan scan_end ahead_of last_of same_kind one_within the_line numeral either elements repeated a_caller number_of_times its_times any_times a_stretch stretches_from all_steps a_schedule
returns-clause-read c = record {
  no_step = told 2 _ _ refl;
  steps = told 2 _ _ refl;
  all_at_once = told_behind 0 _ _ refl;
  all_with_one = told_behind 0 _ _ refl;
  last_step = told_behind 999999 _ _ refl;
  last_steps = told_behind 999997 _ _ refl;
  last_step_by_times = told_behind 999999 _ _ refl;
  too_many_at_once = told_behind 0 _ _ refl;
  one_too_many = told_behind 999999 _ _ refl;
  one_too_many_of_all = told_behind 0 _ _ refl;
  one_too_many_by_times = told_behind 999997 _ _ refl;
  second_too_many_by_times = told_behind 999999 _ _ refl;
  many_before_unknown = told_behind 1000000 _ _ refl;
  many_before_none = told_behind 1000000 _ _ refl;
  caller_2 = told 2 _ _ refl;
  caller_2_later = told 2 _ _ refl;
  caller_of_none = told 0 _ _ refl;
  unknown_before_none = told 2 _ _ refl;
  times_0 = told 2 _ _ refl;
  last_times_0 = told_behind 999999 _ _ refl;
  other_word = told 2 _ _ refl;
  no_caller = told 2 _ _ refl;
  two_times = told 2 _ _ refl;
  no_number = told 2 _ _ refl;
  sign_before_caller = told 2 _ _ refl;
  section_word = told 2 _ _ refl;
  bad_byte = told 2 _ _ refl;
  long_number = told 2 _ _ refl;
  without_end = told 2 _ _ refl;
  empty_text = told 2 _ _ refl;
  trailing = told 2 _ _ refl;
}
