use Rattle.std.proofs.Common.{◌<◌, ℕ, sym, subst}
use Rattle.std.specs.List.{All}
use Rattle.document_answers.proofs.Interleavings.{opens, interleaved}
use Rattle.document_answers.proofs.interleave.run_interleaved.Goals as goal

pub step_all-requires-clause-callers : goal.step_all-requires-clause-callers
step_all-requires-clause-callers g c = λ κs lives. subst (λ (n : ℕ). All (λ (caller : ℕ). caller < n) c.args.schedule.now) (sym c.in_ok-core.ensures.callers) c.requires.callers

pub step_all-requires-clause-opening : goal.step_all-requires-clause-opening
step_all-requires-clause-opening g c = λ κs lives. opens g.D.Decider.verdict _ _ _ _ c.in_ok-core.ensures.opened

pub returns : goal.returns
returns g c = interleaved g.D.Decider.verdict c.args.decider.now c.args.world c.args.lists.now c.args.schedule.now _ _ _ _ c.in_ok-core.ensures.opened c.step_all.ensures c.finish.ensures.finished c.report.ensures.left c.report.ensures.reached c.report.ensures.good
