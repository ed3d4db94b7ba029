-- The report of a core that has ended.
use Rattle.std.proofs.Common.{ℕ, List, Option, sym, refl, subst}
use Rattle.amoebot_state.specs.declared.verdict.Verdict.{Verdict}
use Rattle.amoebot_state.specs.Configs.{Config}
use Rattle.amoebot_state.specs.Zones.{Shown}
use Rattle.claim_core.specs.declared.machine.CoreCaller.{CoreCaller}
use Rattle.claim_core.specs.declared.report.Report.{Report}
use Rattle.claim_core.specs.Turns.{CallerLists, MarkLists, Kept}
use Rattle.claim_core.specs.Machine.{Setup, State}
use Rattle.claim_core.specs.Reached.{HaveEnded, IsReportOf, Reached}
use Rattle.claim_core.specs.Cores.{state_of, IsCore}
use Rattle.claim_core.proofs.Frames.{run_framed}
use Rattle.claim_core.proofs.Seats.{callers-marks}

module _ (verdict : Shown → Verdict) (lists : CallerLists) (tags : List ℕ) (world : Config) (journal : Kept) (holder : Option ℕ) (seats : List CoreCaller) (marks : MarkLists) (is : IsCore verdict lists tags world journal holder seats marks) where
  abbrev g : Setup
  g = record { verdict = verdict; world = journal.first; lists = lists }

  abbrev now : State
  now = state_of tags world journal holder seats marks

  abbrev report : Report
  report = record { world = world; journal = journal; turns = marks }

  pub left : IsReportOf g now report
  left =
      let framed = run_framed verdict journal.first world journal.entries is.setup.valid is.run in
      record {
        first = refl;
        entries = refl;
        world = record { same = framed.same; values = refl };
        marks = λ i. record { turns = is.turns i; marks = sym (callers-marks seats marks.marks is.each) i };
      }

  pub reported : HaveEnded now → Reached g report
  reported ended = record { steps = is.steps; ended = subst HaveEnded is.reached ended; left = subst (λ s. IsReportOf g s report) is.reached left }
