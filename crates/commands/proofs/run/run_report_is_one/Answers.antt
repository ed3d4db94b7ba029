use Rattle.document_answers.specs.AnswerLaws.{SameReport}
use Rattle.document_answers.proofs.Reported.{same_text}
use Rattle.commands.proofs.run.run_report_is_one.Goals as goal

pub returns : goal.returns
returns c = λ f start lists one two version vars few x y.
    let by = c.serial_run_is_determined.ensures.report f start lists one two few x.good y.good (x.serial few) (y.serial few) in
    let same : SameReport one two = record { world = by.0; entries = by.1; marks = by.2 } in
    (same, same_text version vars one two same)
