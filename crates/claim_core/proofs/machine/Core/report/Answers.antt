use Rattle.std.proofs.Common.{sym, subst}
use Rattle.claim_core.specs.Good.{Good}
use Rattle.claim_core.specs.Reached.{HaveEnded, IsReportOf, Reached}
use Rattle.claim_core.specs.Cores.{setup_of}
use Rattle.claim_core.proofs.Ends.{reached_is_good}
use Rattle.claim_core.proofs.ReportLemmas.{left, reported}
use Rattle.claim_core.proofs.machine.Core.report.Goals as goal

pub returns-clause-left : goal.returns-clause-left
returns-clause-left g c = subst (λ r. IsReportOf (setup_of g.D.Decider.verdict r) r.state (record { world = c.self.inside.world; journal = c.self.inside.journal; turns = c.self.inside.marks })) c.self.view_is (left _ _ _ _ _ _ _ _ c.self.invariant)

pub returns-clause-reached : goal.returns-clause-reached
returns-clause-reached g c =
    let ended = subst (λ r. HaveEnded r.state) (sym c.self.view_is) c.requires in
    let reached = reported _ _ _ _ _ _ _ _ c.self.invariant ended in
    subst (λ r. Reached (setup_of g.D.Decider.verdict r) (record { world = c.self.inside.world; journal = c.self.inside.journal; turns = c.self.inside.marks })) c.self.view_is reached

pub returns-clause-good : goal.returns-clause-good
returns-clause-good g c =
    let ended = subst (λ r. HaveEnded r.state) (sym c.self.view_is) c.requires in
    let reached = reported _ _ _ _ _ _ _ _ c.self.invariant ended in
    let good = reached_is_good _ c.self.invariant.setup _ reached in
    subst (λ r. Good (g.D.Decider.verdict r.decider) r.first r.lists (record { world = c.self.inside.world; journal = c.self.inside.journal; turns = c.self.inside.marks })) c.self.view_is good
