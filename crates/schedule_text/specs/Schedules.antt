-- The section `schedule`: which caller makes each step.
--   schedule := "schedule" { stretch } "end"
--   stretch  := NUMBER [ "times" NUMBER ]      a caller, and how many steps it makes in a row;
--                                              one, where that is left out
-- A number with which the steps pass 1,000,000 is TooMany.
-- It may be a caller's, which counts as one step, or the one behind `times`.
-- A caller that has no list is a BadId, and `times` 0 is a BadRange.
use Rattle.std.specs.Prelude.{ℕ, ◌+◌, ◌<◌, ◌≤◌, Bool, ◌==◌, if◌then◌else◌, List, replicate, Option, Some, codes}
use Rattle.std.specs.List.{flat_map}
use Rattle.text_tokens.specs.declared.refusal.RefusalKind.{RefusalKind}
use Rattle.text_tokens.specs.declared.refusal.RefusalKind.TheVariants.{BadRange}
use Rattle.text_tokens.specs.Text.{Lexeme}
use Rattle.text_tokens.specs.Reading.{lexeme_value, past_sum}
use Rattle.text_tokens.specs.Grammar.{Lang, Then, Made, IsNumeral, Closed, IsOptional, Repeated}
use Rattle.shape_text.specs.Parts.{word, is_end, IsWord}
use Rattle.schedule_text.specs.Known.{past_known}

abbrev pub most_steps : ℕ
most_steps = 1000000

-- behind so many steps, one too many, or that of none of so many callers
abbrev pub past_callers : ℕ → ℕ → Lexeme → Option RefusalKind
past_callers callers before t = past_known most_steps callers before t

abbrev pub past_times : ℕ → Lexeme → Option RefusalKind
past_times before t = if lexeme_value t == 0 then Some BadRange else past_sum lexeme_value most_steps before t

abbrev pub is_times : Lexeme → Bool
is_times = word (codes "times")

-- some steps of a caller in a row
pub record Stretch : Type 0 where
  pub caller : ℕ
  pub times : ℕ

-- so many steps in a row, behind so many: one at least, and none too many
abbrev pub AreTimes : ℕ → ℕ → Type 0
AreTimes before times = (0 < times) × (before + times ≤ most_steps)

abbrev pub stretch_of : ℕ → ℕ → Stretch
stretch_of caller times = record { caller = caller; times = times }

abbrev pub IsTimes : ℕ → Lang ℕ
IsTimes before = Then (IsWord (codes "times")) (λ line. IsNumeral (past_times before))

-- a stretch of one of so many callers, behind so many steps
abbrev pub IsStretch : ℕ → ℕ → Lang Stretch
IsStretch callers before =
    Then (IsNumeral (past_callers callers before))
    (λ caller. Made (IsOptional 1 (IsTimes before)) (λ times. stretch_of caller times))

abbrev pub more_steps : ℕ → Stretch → ℕ
more_steps before s = before + s.times

abbrev pub StretchesFrom : ℕ → ℕ → Lang (List Stretch)
StretchesFrom callers before = Repeated (IsStretch callers) more_steps before

-- the caller of each step
abbrev pub steps_in : Stretch → List ℕ
steps_in s = replicate s.times s.caller

abbrev pub steps_of : List Stretch → List ℕ
steps_of = flat_map steps_in

-- the caller of each step, one of so many
abbrev pub IsSchedule : ℕ → Lang (List ℕ)
IsSchedule callers =
    Then (IsWord (codes "schedule")) (λ line. Closed (Made (StretchesFrom callers 0) steps_of) is_end)
