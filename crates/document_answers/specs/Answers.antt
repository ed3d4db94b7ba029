-- What a command answers for a document: how it ended, its report if it has one, and its text.
use Rattle.std.specs.Prelude.{ℕ, List, [], ◌∷◌, codes, decimal}
use Rattle.std.specs.declared.option.Option.{Option}
use Rattle.std.specs.declared.option.Option.TheVariants.{Some, None}
use Rattle.text_tokens.specs.declared.refusal.Refusal.{Refusal}
use Rattle.text_tokens.specs.Kinds.{name}
use Rattle.text_tokens.specs.Lines.{line_text}
use Rattle.claim_core.specs.declared.report.Report.{Report}
use Rattle.document_answers.specs.Reports.{report_text}
use Rattle.document_answers.specs.declared.answer.Answer.{Answer}
use Rattle.document_answers.specs.declared.status.Status.{Status}
use Rattle.document_answers.specs.declared.status.Status.TheVariants as status

-- the number with which the program ends
abbrev pub status_number : Status → ℕ
status_number status.Done = 0
status_number status.Words = 2
status_number (status.Refused refusal) = 3
status_number status.ReadFault = 4
status_number status.WriteFault = 5
status_number status.NoMemory = 6
status_number (status.Differs place) = 7

-- the line of a refusal: its line in the document, and the name of its kind
abbrev pub refusal_line : Refusal → List ℕ
refusal_line r = line_text (codes "refused" ∷ decimal r.line ∷ name r.kind ∷ [])

-- an answer is as a command may end
abbrev pub IsAnswerOf : (Status → Option Report → List ℕ → Type 0) → Answer → Type 0
IsAnswerOf Outcome answer = Outcome answer.status answer.report answer.text

-- the answer of a status and a text alone
abbrev pub with_text : Status → List ℕ → Answer
with_text s text = record { status = s; report = None; text = text }

-- the answer of a report, with its text in a version, where an amoebot has
-- the values of so many variables
abbrev pub with_report : ℕ → ℕ → Report → Answer
with_report version vars report =
    record { status = status.Done; report = Some report; text = report_text version vars report }
