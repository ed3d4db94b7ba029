-- Reports that are one, and their texts.
use Rattle.std.proofs.Common.{◌≡◌, ℕ}
use Rattle.claim_core.specs.declared.report.Report.{Report}
use Rattle.document_answers.specs.Reports.{report_text}
use Rattle.document_answers.specs.AnswerLaws.{SameReport}

-- reports that are one have one text
pub same_text : (version vars : ℕ) (one two : Report) → SameReport one two → report_text version vars one ≡ report_text version vars two
same_text version vars one two same = λ i. report_text version vars (record { world = same.world i; journal = record { first = one.world; entries = same.entries i; spare = 0 }; turns = record { turns = 0; marks = same.marks i } })
