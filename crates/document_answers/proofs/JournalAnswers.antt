-- What is answered to the journal of a document, in the form that it has.
use Rattle.std.proofs.Common.{◌≡◌, ℕ, List, length, Some, Result}
use Rattle.std.specs.Prelude.{IfOk}
use Rattle.amoebot_state.specs.declared.verdict.Entry.{Entry}
use Rattle.amoebot_state.specs.declared.verdict.PlainEntry.{PlainEntry}
use Rattle.amoebot_state.specs.Steps.{plain_entry}
use Rattle.serial_model.specs.Forms.{full_entry}
use Rattle.action_meaning.specs.Verdicts.{verdict_shown}
use Rattle.shape_files.specs.Documents.{Contents}
use Rattle.document_answers.specs.Journals.{DocumentRecord, EntriesOutcome, JournalOutcome, in_full, in_plain}
use Rattle.document_answers.specs.Replay.{agrees_line}
use Rattle.std.proofs.lemmas.Result.{IfOk-weaker}
use Rattle.document_answers.specs.declared.answer.Answer.{Answer}
use Rattle.document_answers.specs.Renew.{renewed_text}

-- the text that `renew` writes for a run of these entries
abbrev pub IsRenewedText : (a : Contents) → DocumentRecord a → List Entry → List ℕ → Type 0
IsRenewedText a d es text = text ≡ renewed_text d.program d.start es d.final

-- the line of `replay` for a run of these entries
abbrev pub IsAgreesLine : List Entry → List ℕ → Type 0
IsAgreesLine es text = text ≡ agrees_line (length es)

-- what is answered to the entries of a document is answered to its journal
module _ {X : Type 0} (a : Contents) (IsText : DocumentRecord a → List Entry → List ℕ → Type 0) (d : DocumentRecord a) (r : Result Answer X) where
  abbrev OfJournal : Answer → Type 0
  OfJournal answer = (e : DocumentRecord a) × JournalOutcome a e (IsText e) answer.status answer.report answer.text

  abbrev OfEntries : {E : Type 0} → (Entry → E) → List E → Answer → Type 0
  OfEntries form told answer = EntriesOutcome form (verdict_shown d.program) d.start told d.final (IsText d) answer.status answer.report answer.text

  pub of_full : (told : List Entry) → a.entries ≡ Some told → IfOk r (OfEntries full_entry told) → IfOk r OfJournal
  of_full told its ok = IfOk-weaker r (OfEntries full_entry told) OfJournal (λ answer is. (d, in_full told its is)) ok

  pub of_plain : (told : List PlainEntry) → a.plain ≡ Some told → IfOk r (OfEntries plain_entry told) → IfOk r OfJournal
  of_plain told its ok = IfOk-weaker r (OfEntries plain_entry told) OfJournal (λ answer is. (d, in_plain told its is)) ok
