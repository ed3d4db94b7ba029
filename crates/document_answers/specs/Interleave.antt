-- The command `interleave`: the callers of the schedule make their steps, one after another;
-- then each caller makes one step in rising number, round after round, until all have ended.
use Rattle.std.specs.Prelude.{◌≡◌, ◌<◌, ℕ, List, reverse}
use Rattle.std.specs.declared.option.Option.{Option}
use Rattle.std.specs.declared.option.Option.TheVariants.{Some}
use Rattle.amoebot_state.specs.declared.verdict.Verdict.{Verdict}
use Rattle.amoebot_state.specs.Configs.{Config}
use Rattle.amoebot_state.specs.Zones.{Shown}
use Rattle.claim_core.specs.declared.report.Report.{Report}
use Rattle.claim_core.specs.Turns.{CallerLists}
use Rattle.claim_core.specs.Good.{Good}
use Rattle.claim_core.specs.Machine.{Setup, State, after, setup}
use Rattle.claim_core.specs.Reached.{HaveEnded, IsReportOf, Reached}
use Rattle.claim_core.specs.StepRounds.{step_rounds}
use Rattle.action_meaning.specs.Verdicts.{verdict_shown}
use Rattle.shape_files.specs.Documents.{Contents}
use Rattle.document_answers.specs.declared.status.Status.{Status}
use Rattle.document_answers.specs.Reports.{DocumentLists, ReportOutcome}

-- the state after the steps of the schedule and so many rounds
abbrev pub at_round : Setup → List ℕ → ℕ → State
at_round g schedule count = step_rounds g count (after g (reverse schedule))

-- the report is that of the state after the schedule and the rounds,
-- of which the last is the first by which all callers have ended
pub record IsScheduled (g : Setup) (schedule : List ℕ) (report : Report) : Type 0 where
  pub count : ℕ
  pub ended : HaveEnded (at_round g schedule count)
  pub first : (n : ℕ) → n < count → ¬ HaveEnded (at_round g schedule n)
  pub left : IsReportOf g (at_round g schedule count) report

-- the report is a good one, which an interleaving gives: the one of the schedule
pub record IsInterleaveReport (f : Shown → Verdict) (start : Config) (lists : CallerLists)
    (schedule : List ℕ) (report : Report) : Type 0 where
  pub good : Good f start lists report
  pub reached : Reached (setup f start lists) report
  pub scheduled : IsScheduled (setup f start lists) schedule report

-- the report is the one that the document's schedule gives for its lists
abbrev pub InterleaveOutcome : Contents → Status → Option Report → List ℕ → Type 0
InterleaveOutcome a =
    ReportOutcome a (λ (d : DocumentLists a) (report : Report). (schedule : List ℕ)
    × (a.schedule ≡ Some schedule)
    × IsInterleaveReport (verdict_shown d.program) d.start d.lists schedule report)
