-- What holds of the verdict of every program.
use Rattle.std.specs.Prelude.{◌≡◌, ◌≢◌, ℕ, true, List, [], IsSome, map}
use Rattle.std.specs.declared.result.Result.TheVariants.{Ok}
use Rattle.amoebot_state.specs.declared.verdict.Entry.{Entry}
use Rattle.amoebot_state.specs.declared.verdict.Failure.TheVariants.{Blocked}
use Rattle.amoebot_state.specs.declared.verdict.Verdict.{Verdict}
use Rattle.amoebot_state.specs.declared.verdict.Verdict.TheVariants as verdict
use Rattle.amoebot_state.specs.Configs.{Config, IsValid, bot_at}
use Rattle.amoebot_state.specs.Zones.{Shown, shown}
use Rattle.amoebot_state.specs.Steps.{Step, Run}
use Rattle.model_ops.specs.Deciders.{DecidesByActs, DecidesGuarded}
use Rattle.model_ops.specs.Laws.{StaysConnected}
use Rattle.action_tree.specs.Trees.{Program}
use Rattle.action_tree.specs.Lines.{without_lines}
use Rattle.action_meaning.specs.Verdicts.{verdict_on, verdict_shown}
use Rattle.action_meaning.specs.Rows.{guard_in_shape, guard_rows, compared_in_shape, compared_rows, sum_in_shape, sum_rows, verdict_in_shape, verdict_rows, verdict_in_queue, queue_rows, guarded_in_queue, guarded_rows}
use Rattle.action_meaning.specs.Rows.{guard_beside_walls, walled_guard_rows, sum_beside_walls, walled_sum_rows, verdict_beside_walls, walled_verdict_rows, verdict_shut_in, shut_rows}

-- on what a valid configuration shows to an amoebot of it,
-- f decides the verdict of the program on that configuration; ids without an amoebot are allowed,
-- and any greatest values
abbrev pub DecidesVerdict : (Shown → Verdict) → Program → Type 0
DecidesVerdict f p = (c : Config) (i : ℕ) → IsValid c → IsSome (bot_at c i) → f (shown c i) ≡ verdict_on p c i

-- what a program decides on what is shown is that
abbrev pub VerdictIsShown : Type 0
VerdictIsShown = (p : Program) → DecidesVerdict (verdict_shown p) p

-- its changes are made by operations of the model, with the guard as the program has it
abbrev pub ProgramsDecideByActs : Type 0
ProgramsDecideByActs = (p : Program) → DecidesByActs (verdict_shown p)

abbrev pub GuardedProgramsDecideGuarded : Type 0
GuardedProgramsDecideGuarded = (p : Program) → p.guard ≡ true → DecidesGuarded (verdict_shown p)

-- where the program has the guard on, a step by f from a valid configuration leaves
-- connected occupied nodes connected
abbrev pub GuardedStepsStayConnected : (Shown → Verdict) → Program → Type 0
GuardedStepsStayConnected f p =
    (old : Config) (e : Entry) (new : Config)
    → p.guard ≡ true
    → IsValid old
    → Step f old e new
    → StaysConnected old new

-- and so does a run
abbrev pub GuardedRunsStayConnected : (Shown → Verdict) → Program → Type 0
GuardedRunsStayConnected f p =
    (first : Config) (es : List Entry) (last : Config)
    → p.guard ≡ true
    → IsValid first
    → Run f first es last
    → StaysConnected first last

-- so it is with the steps and the runs of each program
abbrev pub ProgramStepsStayConnected : Type 0
ProgramStepsStayConnected = (p : Program) → GuardedStepsStayConnected (verdict_shown p) p

abbrev pub ProgramRunsStayConnected : Type 0
ProgramRunsStayConnected = (p : Program) → GuardedRunsStayConnected (verdict_shown p) p

-- a verdict of Blocked is one on a neighbourhood with a wall
abbrev pub BlockedIsShown : Type 0
BlockedIsShown = (p : Program) (s : Shown) → verdict_shown p s ≡ verdict.Failed Blocked → s.walls ≢ []

-- programs that are equal without their lines have the same verdict
abbrev pub VerdictIgnoresLines : Type 0
VerdictIgnoresLines =
    (p q : Program)
    → without_lines p ≡ without_lines q
    → (c : Config) (i : ℕ)
    → verdict_on p c i ≡ verdict_on q c i

-- expressions and programs on small configurations have the values and the verdicts of the tables
pub record ValuesAreComputed : Type 0 where
  pub guards : map guard_in_shape guard_rows ≡ map (λ r. r.value) guard_rows
  pub compared : map (λ r. compared_in_shape r.0) compared_rows ≡ map (λ r. map Ok r.1) compared_rows
  pub sums : map sum_in_shape sum_rows ≡ map (λ r. r.value) sum_rows
  pub verdicts : map verdict_in_shape verdict_rows ≡ map (λ r. r.verdict) verdict_rows
  pub unguarded : map verdict_in_queue queue_rows ≡ map (λ r. r.verdict) queue_rows
  pub guarded : map guarded_in_queue guarded_rows ≡ map (λ r. r.verdict) guarded_rows
  pub walled_guards : map guard_beside_walls walled_guard_rows ≡ map (λ r. r.value) walled_guard_rows
  pub walled_sums : map sum_beside_walls walled_sum_rows ≡ map (λ r. r.value) walled_sum_rows
  pub walled_verdicts : map verdict_beside_walls walled_verdict_rows
      ≡ map (λ r. r.verdict) walled_verdict_rows
  pub shut_in : map verdict_shut_in shut_rows ≡ map (λ r. r.verdict) shut_rows
