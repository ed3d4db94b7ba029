use Rattle.std.proofs.Common.{[], subst, arith}
use Rattle.claim_core.specs.Cores.{Running, setup_of}
use Rattle.claim_core.specs.Reached.{HaveEnded, IsReportOf}
use Rattle.caller_workers.proofs.worked.without_lists.Goals as goal

-- src/worked.rt
pub returns-clause-ticketed : goal.returns-clause-ticketed
returns-clause-ticketed g c =
    let opened = c.in_ok-core.ensures.opened in
    let none = c.in_ok-core.ensures.callers in record {
      steps = [];
      ended = subst (λ (r : Running g.row.D.Denot). HaveEnded r.state) opened (λ k d lt. absurd (omega (arith, lt, none, c.requires)));
      left = subst (λ (r : Running g.row.D.Denot). IsReportOf (setup_of g.D.Decider.verdict r) r.state c.report.result) opened c.report.ensures.left;
    }
