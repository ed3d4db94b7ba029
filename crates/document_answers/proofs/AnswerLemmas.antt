-- Answers that are others, and what was taken from a document as its record.
use Rattle.std.proofs.Common.{◌≡◌, ℕ, List, Option, sym, subst, Result}
use Rattle.std.specs.Prelude.{IfOk}
use Rattle.text_tokens.specs.declared.refusal.Refusal.{Refusal}
use Rattle.amoebot_state.specs.Configs.{Config}
use Rattle.claim_core.specs.declared.report.Report.{Report}
use Rattle.action_tree.specs.Trees.{Program}
use Rattle.shape_files.specs.Documents.{Contents}
use Rattle.document_answers.specs.declared.answer.Answer.{Answer}
use Rattle.document_answers.specs.declared.status.Status.TheVariants as status
use Rattle.document_answers.specs.Journals.{DocumentRecord}
use Rattle.document_answers.specs.Answers.{IsAnswerOf, with_text, refusal_line}
use Rattle.document_answers.specs.declared.recorded.Journal.{Journal}
use Rattle.document_answers.specs.Recorded.{IsRecordOf}
use Rattle.document_answers.specs.declared.status.Status.{Status}
use Rattle.std.proofs.lemmas.Result.{IfOk-weaker}

-- an answer that is another one
pub answers : (Outcome : Status → Option Report → List ℕ → Type 0) (one two : Answer) → one ≡ two → IsAnswerOf Outcome two → IsAnswerOf Outcome one
answers Outcome one two same is = subst (IsAnswerOf Outcome) (sym same) is

abbrev pub record_of : (a : Contents) (r : Program × Config × Config × Journal) → IsRecordOf a r.0 r.1 r.2 r.3 → DocumentRecord a
record_of a r is = record { program = r.0; start = r.1; final = r.2; its_program = is.program; its_shape = is.start; its_final = is.last }

-- where it is that for each answer that is left
pub ok_answers : {X : Type 0} (Outcome : Status → Option Report → List ℕ → Type 0) (r : Result Answer X) (one : Answer) → IsAnswerOf Outcome one → IfOk r (λ (a : Answer). a ≡ one) → IfOk r (IsAnswerOf Outcome)
ok_answers Outcome r one is ok = IfOk-weaker r (λ (a : Answer). a ≡ one) (IsAnswerOf Outcome) (λ answer same. answers Outcome answer one same is) ok

-- the line of a refusal that is another one
pub refused_with : {X : Type 0} (r : Result Answer X) (one two : Refusal) → one ≡ two → IfOk r (λ (a : Answer). a ≡ with_text (status.Refused one) (refusal_line one)) → IfOk r (λ (a : Answer). a ≡ with_text (status.Refused two) (refusal_line two))
refused_with r one two same ok = subst (λ (x : Refusal). IfOk r (λ (a : Answer). a ≡ with_text (status.Refused x) (refusal_line x))) same ok
