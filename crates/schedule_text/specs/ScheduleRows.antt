-- Some texts of schedules, of 2 callers, with the caller of each step or their first fault.
use Rattle.std.specs.Prelude.{ℕ, List, [], ◌∷◌, Ok, Err, codes}
use Rattle.text_tokens.specs.declared.refusal.RefusalKind.{RefusalKind}
use Rattle.text_tokens.specs.declared.refusal.RefusalKind.TheVariants.{BadByte, WordTooLong, Unexpected, TooMany, Truncated, BadRange, BadId, Trailing}
use Rattle.text_tokens.specs.Cursor.{on_line}
use Rattle.text_tokens.specs.Inputs.{Says}
use Rattle.schedule_text.specs.Schedules.{Stretch, stretch_of, StretchesFrom, IsSchedule}

-- these steps
abbrev pub YieldsSteps : List ℕ → List ℕ → Type 0
YieldsSteps text callers = Says (IsSchedule 2) text (Ok callers)

-- a text with this first fault
abbrev pub FailsAsSchedule : List ℕ → ℕ → RefusalKind → Type 0
FailsAsSchedule text line kind = Says (IsSchedule 2) text (Err (on_line line kind))

-- behind so many steps: these stretches, and a first fault
abbrev pub YieldsBehind : ℕ → List ℕ → List Stretch → Type 0
YieldsBehind before text stretches = Says (StretchesFrom 2 before) text (Ok stretches)

abbrev pub FailsBehind : ℕ → List ℕ → ℕ → RefusalKind → Type 0
FailsBehind before text line kind = Says (StretchesFrom 2 before) text (Err (on_line line kind))

pub record SchedulesAreRead : Type 0 where
  -- ---- texts
  pub no_step : YieldsSteps (codes "schedule end") []
  pub steps : YieldsSteps (codes "schedule\n0 times 3\n1\n0 times 1 01 times 002\nend\n")
      (0 ∷ 0 ∷ 0 ∷ 1 ∷ 0 ∷ 1 ∷ 1 ∷ [])
  -- as many steps as there may be: at once, by a caller, and by `times`
  pub all_at_once : YieldsBehind 0 (codes "0 times 1000000") (stretch_of 0 1000000 ∷ [])
  pub all_with_one : YieldsBehind 0 (codes "0 times 999999 1") (stretch_of 0 999999 ∷ stretch_of 1 1 ∷ [])
  pub last_step : YieldsBehind 999999 (codes "1") (stretch_of 1 1 ∷ [])
  pub last_steps : YieldsBehind 999997 (codes "1 times 3") (stretch_of 1 3 ∷ [])
  pub last_step_by_times : YieldsBehind 999999 (codes "1 times 1") (stretch_of 1 1 ∷ [])
  -- ---- a step too many
  pub too_many_at_once : FailsBehind 0 (codes "0 times\n1000001") 2 TooMany
  pub one_too_many : FailsBehind 999999 (codes "1\n0") 2 TooMany
  pub one_too_many_of_all : FailsBehind 0 (codes "0 times 999999 1\n1") 2 TooMany
  pub one_too_many_by_times : FailsBehind 999997 (codes "1 times\n4") 2 TooMany
  pub second_too_many_by_times : FailsBehind 999999 (codes "1 times\n2") 2 TooMany
  -- before what else is wrong with the caller or behind it
  pub many_before_unknown : FailsBehind 1000000 (codes "2") 1 TooMany
  pub many_before_none : FailsBehind 1000000 (codes "1\ntimes 0") 1 TooMany
  -- ---- callers without a list, and no step
  pub caller_2 : FailsAsSchedule (codes "schedule\n2 end") 2 BadId
  pub caller_2_later : FailsAsSchedule (codes "schedule 0 times 3\n2 end") 2 BadId
  pub caller_of_none : Says (IsSchedule 0) (codes "schedule\n0 end") (Err (on_line 2 BadId))
  pub unknown_before_none : FailsAsSchedule (codes "schedule\n2\ntimes 0 end") 2 BadId
  pub times_0 : FailsAsSchedule (codes "schedule 0 times\n0 end") 2 BadRange
  pub last_times_0 : FailsBehind 999999 (codes "1 times\n0") 2 BadRange
  -- ---- tokens that do not belong there
  pub other_word : FailsAsSchedule (codes "lists end") 1 Unexpected
  pub no_caller : FailsAsSchedule (codes "schedule\ntimes 3 end") 2 Unexpected
  pub two_times : FailsAsSchedule (codes "schedule 0 times 3\ntimes 3 end") 2 Unexpected
  pub no_number : FailsAsSchedule (codes "schedule 0 times\nend") 2 Unexpected
  pub sign_before_caller : FailsAsSchedule (codes "schedule\n-1 end") 2 Unexpected
  pub section_word : FailsAsSchedule (codes "schedule 0\njournal end") 2 Unexpected
  pub bad_byte : FailsAsSchedule (codes "schedule 0\n, end") 2 BadByte
  pub long_number : FailsAsSchedule (codes "schedule 0 times\n0000000001 end") 2 WordTooLong
  pub without_end : FailsAsSchedule (codes "schedule 0\n") 2 Truncated
  pub empty_text : FailsAsSchedule [] 1 Truncated
  pub trailing : FailsAsSchedule (codes "schedule end\n0") 2 Trailing
