-- Steps of a schedule, and the rounds behind them.
use Rattle.std.proofs.Common.{◌≡◌, ℕ, List, ap, sym, subst, ◌∙◌}
use Rattle.std.specs.Prelude.{reverse}
use Rattle.amoebot_state.specs.declared.verdict.Verdict.{Verdict}
use Rattle.amoebot_state.specs.Configs.{Config}
use Rattle.amoebot_state.specs.Zones.{Shown}
use Rattle.claim_core.specs.declared.report.Report.{Report}
use Rattle.claim_core.specs.Turns.{CallerLists}
use Rattle.claim_core.specs.Good.{Good}
use Rattle.claim_core.specs.Machine.{after}
use Rattle.claim_core.specs.Reached.{HaveEnded, IsReportOf, Reached}
use Rattle.claim_core.specs.StepRounds.{step_rounds}
use Rattle.claim_core.specs.Cores.{Running, IsFinished, opening_core, setup_of}
use Rattle.document_answers.specs.Interleave.{IsInterleaveReport}

module _ {D : Type 0} (verdict : D → Shown → Verdict) where
  -- a core after the steps of a schedule
  abbrev pub led : List ℕ → Running D → Running D
  led schedule r = record r { state = after (setup_of verdict r) (reverse schedule) }

  -- and after rounds
  abbrev pub rounded : ℕ → Running D → Running D
  rounded count r = record r { state = step_rounds (setup_of verdict r) count r.state }

  -- what it is at the opening
  pub opens : (d : D) (start : Config) (lists : CallerLists) (made : Running D) → made ≡ opening_core verdict d start lists → made ≡ opening_core verdict made.decider made.first made.lists
  opens d start lists made e = e ∙ sym (ap (λ (r : Running D). opening_core verdict r.decider r.first r.lists) e)

  pub interleaved : (d : D) (start : Config) (lists : CallerLists) (schedule : List ℕ) (made behind last : Running D) (report : Report) → made ≡ opening_core verdict d start lists → behind ≡ led schedule made → IsFinished verdict behind last → IsReportOf (setup_of verdict last) last.state report → Reached (setup_of verdict last) report → Good (verdict last.decider) last.first last.lists report → IsInterleaveReport (verdict d) start lists schedule report
  interleaved d start lists schedule made behind last report at_first by_steps is left reached good =
      let e = by_steps ∙ ap (led schedule) at_first in
      let end = is.state ∙ ap (rounded is.count) e in
      record {
        good = subst (λ (r : Running D). Good (verdict r.decider) r.first r.lists report) end good;
        reached = subst (λ (r : Running D). Reached (setup_of verdict r) report) end reached;
        scheduled = record {
          count = is.count;
          ended = subst (λ (r : Running D). HaveEnded r.state) end is.ended;
          first = λ n lt ended. is.first n lt (subst (λ (r : Running D). HaveEnded (step_rounds (setup_of verdict r) n r.state)) (sym e) ended);
          left = subst (λ (r : Running D). IsReportOf (setup_of verdict r) r.state report) end left;
        };
      }
