use Rattle.std.proofs.Common.{subst, sym}
use Rattle.std.proofs.lemmas.Result.{IfOk-weaker}
use Rattle.commands.specs.declared.prepared.Telling.{Telling}
use Rattle.commands.specs.Tasks.{IsCounted, TellsReport}
use Rattle.commands.proofs.PreparedRuns.{report_told}
use Rattle.commands.proofs.prepared.tell.Goals as goal

pub returns-in-Report : goal.returns-in-Report
returns-in-Report c = IfOk-weaker _ _ _ (λ answer is. report_told c.in-Report.version c.args.runner.now c.args.lists.now c.args.report c.args.telling answer c.in-Report.is is) c.tell_report.ensures

pub tell_sample-requires-clause-few : goal.tell_sample-requires-clause-few
tell_sample-requires-clause-few c = subst (λ (t : Telling). IsCounted t c.args.report) c.in-Sample.is c.requires.few

pub returns-in-Sample : goal.returns-in-Sample
returns-in-Sample c = IfOk-weaker _ _ _ (λ answer is. subst (λ (t : Telling). TellsReport t c.args.runner.now c.args.lists.now c.args.report answer) (sym c.in-Sample.is) is) c.tell_sample.ensures
