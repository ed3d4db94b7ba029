-- A text is a document of a form in one way, or has one first fault.
use Rattle.std.proofs.Common.{ℕ, List, Result, Ok, Err, subst}
use Rattle.text_tokens.specs.declared.refusal.Refusal.{Refusal}
use Rattle.text_tokens.specs.declared.refusal.RefusalKind.TheVariants.{Trailing}
use Rattle.text_tokens.specs.Text.{Lexeme, AreTokens}
use Rattle.text_tokens.specs.Scan.{ahead_of, last_of}
use Rattle.text_tokens.specs.Inputs.{TellsInput}
use Rattle.text_tokens.proofs.Blanks.{point}
use Rattle.text_tokens.proofs.PromisesLemmas.{one_reading, tokens_of_text}
use Rattle.shape_files.specs.declared.section_kind.Form.{Form}
use Rattle.shape_files.specs.Frame.{course_of, least_version}
use Rattle.shape_files.specs.FrameLaws.{Framed}
use Rattle.shape_files.specs.Documents.{Contents, nothing_yet, Body, IsDocumentFrom, IsDocument, FormSaysFrom, FormSays, IsDecidedFrom, IsDecidedForm}
use Rattle.shape_files.specs.DocumentReaders.{body, document_from, document}
use Rattle.shape_files.proofs.FrameLemmas.{framed}
use Rattle.shape_files.proofs.SectionLemmas.{are_sections}

pub framed_from : (least : ℕ) (form : Form) → Framed (IsDocumentFrom least form) (document_from least form)
unfolding document_from
framed_from least form = framed Body body are_sections least (course_of form) nothing_yet

pub document_framed : (form : Form) → Framed (IsDocument form) (document form)
document_framed form = framed_from least_version form

module _ (least : ℕ) (form : Form) (bytes : List ℕ) where
  -- what holds of the tokens of the bytes holds of the bytes, which have no others
  pub says_from : (r : Result Contents Refusal) (ts : List Lexeme) (last : Refusal) → AreTokens bytes 0 ts last → TellsInput (IsDocumentFrom least form) Trailing last ts r → FormSaysFrom least form bytes r
  says_from (Ok a) ts last are tells = λ us end others. (let one = one_reading bytes ts us last end are others in subst (λ (l : Refusal). TellsInput (IsDocumentFrom least form) Trailing l us (Ok a)) one.last (subst (λ (vs : List Lexeme). TellsInput (IsDocumentFrom least form) Trailing last vs (Ok a)) one.tokens tells))
  says_from (Err r) ts last are tells = λ us end others. (let one = one_reading bytes ts us last end are others in subst (λ (l : Refusal). TellsInput (IsDocumentFrom least form) Trailing l us (Err r)) one.last (subst (λ (vs : List Lexeme). TellsInput (IsDocumentFrom least form) Trailing last vs (Err r)) one.tokens tells))

  told : (r : Result Contents Refusal) → FormSaysFrom least form bytes r → TellsInput (IsDocumentFrom least form) Trailing (last_of (point bytes 0)) (ahead_of (point bytes 0)) r
  told (Ok a) says = says (ahead_of (point bytes 0)) (last_of (point bytes 0)) (tokens_of_text bytes)
  told (Err r) says = says (ahead_of (point bytes 0)) (last_of (point bytes 0)) (tokens_of_text bytes)

pub says_of : (form : Form) (bytes : List ℕ) (r : Result Contents Refusal) (ts : List Lexeme) (last : Refusal) → AreTokens bytes 0 ts last → TellsInput (IsDocument form) Trailing last ts r → FormSays form bytes r
says_of form bytes r ts last are tells = says_from least_version form bytes r ts last are tells

pub decided_from : (least : ℕ) (form : Form) → IsDecidedFrom least form
decided_from least form =
    let decided = (framed_from least form).decided_input in
    record {
      some = λ bytes. (let d = decided.some (last_of (point bytes 0)) (ahead_of (point bytes 0)) in (d.0, says_from least form bytes d.0 (ahead_of (point bytes 0)) (last_of (point bytes 0)) (tokens_of_text bytes) d.1));
      one = λ bytes r s p q. decided.one (last_of (point bytes 0)) (ahead_of (point bytes 0)) r s (told least form bytes r p) (told least form bytes s q);
    }

pub is_decided : (form : Form) → IsDecidedForm form
is_decided form = decided_from least_version form
