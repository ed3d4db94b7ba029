use Rattle.claim_core.specs.Machine.{setup}
use Rattle.document_answers.proofs.Reported.{same_text}
use Rattle.document_answers.proofs.Scheduled.{schedule_has_one_report}
use Rattle.document_answers.proofs.interleave.interleave_report_is_one.Goals as goal

pub returns-clause-report : goal.returns-clause-report
returns-clause-report c = schedule_has_one_report c.state_has_one_report.ensures

pub returns-clause-text : goal.returns-clause-text
returns-clause-text c = λ f start lists schedule one two version vars x y.
    let same = schedule_has_one_report c.state_has_one_report.ensures (setup f start lists) schedule one two x.scheduled y.scheduled in
    (same, same_text version vars one two same)
