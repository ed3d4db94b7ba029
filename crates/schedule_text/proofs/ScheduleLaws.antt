-- The readers of schedules are parts for their grammars.
use Rattle.std.proofs.Common.{ℕ, Bool, refl}
use Rattle.std.specs.Prelude.{codes, not}
use Rattle.std.proofs.lemmas.Bool.{not-true}
use Rattle.text_tokens.specs.declared.token.TokenKind.TheVariants.{Word}
use Rattle.text_tokens.specs.Text.{Lexeme}
use Rattle.text_tokens.specs.Reading.{◌>>=◌, pure, is_number, no_limit}
use Rattle.text_tokens.specs.Grammar.{Made, IsNumeral, IsOptional}
use Rattle.text_tokens.specs.Lawful.{Exact, IsPart, always, Starts, AreElements}
use Rattle.text_tokens.proofs.Exactness.{exact}
use Rattle.text_tokens.proofs.Parts.{part_less}
use Rattle.text_tokens.proofs.ChoiceLemmas.{part_optional}
use Rattle.text_tokens.proofs.RepeatedLemmas.{part_repeated}
use Rattle.text_tokens.proofs.LexemeLemmas.{other_text, a_numeral, starts_numeral}
use Rattle.text_tokens.proofs.JoinedParts.{one_behind, into, starts_behind}
use Rattle.shape_text.specs.Parts.{word, is_end}
use Rattle.shape_text.proofs.PartLaws.{up_to_end, starts_word, part_word, number_no_word}
use Rattle.schedule_text.specs.Schedules.{past_callers, past_times, is_times, stretch_of, IsTimes, IsStretch, more_steps, StretchesFrom, steps_of, IsSchedule}
use Rattle.schedule_text.specs.Readers.{a_caller, number_of_times, its_times, any_times, a_stretch, stretches_from, all_steps, a_schedule}
use Rattle.schedule_text.proofs.ListLaws.{word_no_number}

-- nothing but `times` goes on behind a caller
pub no_times : Lexeme → Bool
no_times t = not (is_times t)

part_number_of_times : (before : ℕ) → IsPart (IsNumeral (past_times before)) (number_of_times before) always
unfolding number_of_times
part_number_of_times before = a_numeral (past_times before)

part_its_times : (before : ℕ) → IsPart (IsTimes before) (its_times before) always
unfolding its_times
part_its_times before = one_behind (part_word (codes "times") refl) (λ line. part_number_of_times before)

starts_times : (before : ℕ) → Starts (IsTimes before) is_times no_limit
starts_times before = starts_word (codes "times") (λ line. part_number_of_times before)

part_any_times : (before : ℕ) → IsPart (IsOptional 1 (IsTimes before)) (any_times before) no_times
unfolding any_times no_times
part_any_times before = part_optional 1 (IsTimes before) (its_times before) is_times no_limit (λ t. not (is_times t)) (starts_times before)
    (part_less (IsTimes before) (its_times before) always (λ t. not (is_times t)) (λ t e. refl) (part_its_times before)) (λ t e. not-true (is_times t) e)

module _ (callers : ℕ) where
  part_caller : (before : ℕ) → IsPart (IsNumeral (past_callers callers before)) (a_caller callers before) always
  unfolding a_caller
  part_caller before = a_numeral (past_callers callers before)

  part_behind : (before caller : ℕ) → IsPart (Made (IsOptional 1 (IsTimes before)) (λ times. stretch_of caller times)) (any_times before >>= λ times. pure (stretch_of caller times)) no_times
  part_behind before caller = into (λ times. stretch_of caller times) (part_any_times before)

  part_stretch : (before : ℕ) → IsPart (IsStretch callers before) (a_stretch callers before) no_times
  unfolding a_stretch
  part_stretch before = one_behind (part_caller before) (part_behind before)

  pub stretch_elements : AreElements (IsStretch callers) (a_stretch callers) is_number no_times is_end
  unfolding no_times
  stretch_elements = record {
    over = past_callers callers;
    start = λ before. starts_behind (starts_numeral (past_callers callers before)) (part_behind before);
    part = part_stretch;
    again = λ t e. rw (number_no_word (codes "times") t e) refl;
    ends = λ t e. rw (other_text Word (codes "end") (codes "times") t refl e) refl;
    differ = λ t e. word_no_number (codes "end") t e;
  }

  pub part_stretches_from : (before : ℕ) → IsPart (StretchesFrom callers before) (stretches_from callers before) is_end
  unfolding stretches_from
  part_stretches_from before = part_repeated (IsStretch callers) (a_stretch callers) more_steps is_number no_times is_end stretch_elements before

  part_all_steps : IsPart (Made (StretchesFrom callers 0) steps_of) (all_steps callers) is_end
  unfolding all_steps
  part_all_steps = into steps_of (part_stretches_from 0)

  pub part_schedule : IsPart (IsSchedule callers) (a_schedule callers) always
  unfolding a_schedule
  part_schedule = one_behind (part_word (codes "schedule") refl) (λ line. up_to_end part_all_steps)

  pub starts_schedule : Starts (IsSchedule callers) (word (codes "schedule")) no_limit
  starts_schedule = starts_word (codes "schedule") (λ line. up_to_end part_all_steps)

  pub exact_schedule : Exact (IsSchedule callers) (a_schedule callers)
  exact_schedule = exact (IsSchedule callers) (a_schedule callers) part_schedule.law

  pub exact_stretches_from : (before : ℕ) → Exact (StretchesFrom callers before) (stretches_from callers before)
  exact_stretches_from before = exact (StretchesFrom callers before) (stretches_from callers before) (part_stretches_from before).law
