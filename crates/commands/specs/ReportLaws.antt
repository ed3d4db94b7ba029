-- What follows from the definitions of reports alone.
use Rattle.std.specs.Prelude.{◌≡◌, ◌<◌, ◌≤◌, ◌*◌, ℕ, true, List, length}
use Rattle.std.specs.List.{All}
use Rattle.tri_lattice.specs.Sets.{IsConnected}
use Rattle.amoebot_state.specs.declared.verdict.Entry.{Entry}
use Rattle.amoebot_state.specs.declared.verdict.Verdict.{Verdict}
use Rattle.amoebot_state.specs.Configs.{Config}
use Rattle.amoebot_state.specs.Steps.{IsWorldAt}
use Rattle.amoebot_state.specs.Occupied.{occupied}
use Rattle.amoebot_state.specs.Zones.{Shown}
use Rattle.claim_core.specs.declared.report.Report.{Report}
use Rattle.claim_core.specs.Turns.{CallerLists}
use Rattle.claim_core.specs.Good.{Good}
use Rattle.claim_core.specs.Reached.{Reached}
use Rattle.action_tree.specs.Trees.{Program}
use Rattle.action_meaning.specs.Verdicts.{verdict_shown}
use Rattle.document_answers.specs.Reports.{report_text}
use Rattle.document_answers.specs.AnswerLaws.{SameReport}
use Rattle.commands.specs.Run.{IsRunReport}
use Rattle.commands.specs.Sample.{IsSampleText}

-- a run of at most one list has at most one report, and one text of it
abbrev pub RunReportIsOne : Type 0
RunReportIsOne =
    (f : Shown → Verdict) (start : Config) (lists : CallerLists) (one two : Report) (version vars : ℕ)
    → length lists.ids ≤ 1
    → IsRunReport Reached f start lists one
    → IsRunReport Reached f start lists two
    → SameReport one two × (report_text version vars one ≡ report_text version vars two)

-- with the guard on and a connected shape at the start, the shape
-- is connected in each world of the run
abbrev pub StaysConnectedIn : Program → Config → List Entry → Type 0
StaysConnectedIn p start entries =
    p.guard ≡ true
    → IsConnected (occupied start)
    → (place : ℕ) (world : Config)
    → IsWorldAt (verdict_shown p) start entries place world
    → IsConnected (occupied world)

-- so it is in each good report
abbrev pub GoodStaysConnected : Type 0
GoodStaysConnected =
    (p : Program) (start : Config) (lists : CallerLists) (report : Report)
    → Good (verdict_shown p) start lists report
    → StaysConnectedIn p start report.journal.entries

-- the entries of a good report are those of amoebots that are there,
-- and there is at most one for each turn
pub record IsFew (start : Config) (lists : CallerLists) (entries : List Entry) : Type 0 where
  pub bots : All (λ (e : Entry). e.bot < length start.bots) entries
  pub few : length entries ≤ length lists.ids * lists.turns

abbrev pub GoodIsFew : Type 0
GoodIsFew =
    (f : Shown → Verdict) (start : Config) (lists : CallerLists) (report : Report)
    → Good f start lists report
    → IsFew start lists report.journal.entries

-- a report has one text as that of a sample
abbrev pub SampleTextIsOne : Type 0
SampleTextIsOne =
    (f : Shown → Verdict) (start : Config) (lists : CallerLists)
    (seed : ℕ) (report : Report) (text other : List ℕ)
    → IsSampleText f start lists seed report text
    → IsSampleText f start lists seed report other
    → text ≡ other
