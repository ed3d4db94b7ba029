-- Calls that fail by plan: each call has a number, and the plan lists
-- the numbers of those that fail.
use Rattle.std.specs.Prelude.{ℕ, List}
use Rattle.std.specs.List.{Contains}
use Rattle.outer_io.specs.Counted.{raised_count}

-- the most bytes that one call passes, the numbers of the calls that fail,
-- and how many calls were made and failed
pub record CallPlan : Type 0 where
  pub piece : ℕ
  pub failing : List ℕ
  pub calls : ℕ
  pub faults : ℕ

-- before the first call
abbrev pub fresh_plan : ℕ → List ℕ → CallPlan
fresh_plan piece failing = record { piece = piece; failing = failing; calls = 0; faults = 0 }

-- the next call fails: its number, which is how many were made before it, is listed
abbrev pub FailsNext : CallPlan → Type 0
FailsNext plan = Contains plan.failing plan.calls

-- after a call that passed bytes or reported the end, and after one that failed
abbrev pub after_good_call : CallPlan → CallPlan
after_good_call plan = record {
  piece = plan.piece;
  failing = plan.failing;
  calls = raised_count plan.calls;
  faults = plan.faults;
}

abbrev pub after_failed_call : CallPlan → CallPlan
after_failed_call plan = record {
  piece = plan.piece;
  failing = plan.failing;
  calls = raised_count plan.calls;
  faults = raised_count plan.faults;
}
