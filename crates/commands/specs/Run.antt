-- The command `run`: a report of turns that workers make.
use Rattle.std.specs.Prelude.{◌≤◌, ℕ, List, length}
use Rattle.std.specs.declared.option.Option.{Option}
use Rattle.amoebot_state.specs.declared.verdict.Verdict.{Verdict}
use Rattle.amoebot_state.specs.Configs.{Config}
use Rattle.amoebot_state.specs.Zones.{Shown}
use Rattle.claim_core.specs.declared.report.Report.{Report}
use Rattle.claim_core.specs.Turns.{CallerLists}
use Rattle.claim_core.specs.Good.{Good}
use Rattle.claim_core.specs.SerialRuns.{SerialRun, all_turns, left_by}
use Rattle.claim_core.specs.Machine.{Setup, setup}
use Rattle.claim_core.specs.Reached.{Reached}
use Rattle.action_meaning.specs.Verdicts.{verdict_shown}
use Rattle.shape_files.specs.Documents.{Contents}
use Rattle.document_answers.specs.declared.status.Status.{Status}
use Rattle.document_answers.specs.Reports.{DocumentLists, ReportOutcome}

-- The report is a good one, and steps of one kind give it: `Reached`,
-- or `TicketReached` where commits draw their places.
-- With at most one list it is what its turns leave, one after another,
-- each the verdict on the world reached and none Busy.
pub record IsRunReport (IsReached : Setup → Report → Type 0)
    (f : Shown → Verdict) (start : Config) (lists : CallerLists)
    (report : Report) : Type 0 where
  pub good : Good f start lists report
  pub reached : IsReached (setup f start lists) report
  pub serial : length lists.ids ≤ 1 → SerialRun f start lists (all_turns lists) (left_by report)

-- the report is one of a run of the document's lists,
-- which an interleaving of their callers' steps gives
abbrev pub RunOutcome : Contents → Status → Option Report → List ℕ → Type 0
RunOutcome a =
    ReportOutcome a (λ (d : DocumentLists a) (report : Report).
    IsRunReport Reached (verdict_shown d.program) d.start d.lists report)
