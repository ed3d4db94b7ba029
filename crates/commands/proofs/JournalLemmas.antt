-- How a command ends for the journal of a document: in one way, in some way, and as `replay` does.
use Rattle.std.proofs.Common.{◌≡◌, ◌≢◌, ℕ, List, length, map, Option, Some, None, inl, inr, ap, sym, subst, refl, ◌∙◌}
use Rattle.std.proofs.lemmas.Bool.{cases_Bool}
use Rattle.std.proofs.lemmas.Option.{none-some}
use Rattle.amoebot_state.specs.declared.verdict.Entry.{Entry}
use Rattle.amoebot_state.specs.declared.verdict.PlainEntry.{PlainEntry}
use Rattle.amoebot_state.specs.declared.verdict.Verdict.{Verdict}
use Rattle.amoebot_state.specs.Configs.{Config}
use Rattle.amoebot_state.specs.Zones.{Shown}
use Rattle.amoebot_state.specs.Steps.{plain_entry}
use Rattle.serial_model.specs.Forms.{full_entry}
use Rattle.serial_model.specs.Laws.{PlainRunIsUnique}
use Rattle.serial_model.proofs.Runs.{full_entries}
use Rattle.claim_core.specs.declared.report.Report.{Report}
use Rattle.claim_core.proofs.Places.{one_at}
use Rattle.action_tree.specs.Trees.{Program}
use Rattle.action_meaning.specs.Verdicts.{verdict_shown}
use Rattle.shape_text.specs.Parts.{has_old_values}
use Rattle.shape_files.specs.Documents.{Contents}
use Rattle.shape_files.specs.Fitting.{FitTogether}
use Rattle.commands.specs.declared.words.DocumentCommand.{DocumentCommand}
use Rattle.commands.specs.declared.words.DocumentCommand.TheVariants.{Replay}
use Rattle.document_answers.specs.declared.status.Status.{Status}
use Rattle.document_answers.specs.declared.status.Status.TheVariants as status
use Rattle.commands.specs.Commands.{IsDocumentOf, IsDocumentFaultOf}
use Rattle.commands.specs.Laws.{SameIfAny}
use Rattle.commands.specs.Outcomes.{IsOutcome}
use Rattle.commands.specs.Owed.{read_fault, longer, refused, served}
use Rattle.commands.specs.Reads.{Read, whole}
use Rattle.document_answers.specs.Journals.{Agrees, DocumentRecord, EntriesOutcome, JournalOutcome, TellsEntries, agreeing, differing, differs_line, in_full, in_plain}
use Rattle.commands.specs.RenewLaws.{EndsAsReplay, IsOwedFor}
use Rattle.document_answers.specs.Replay.{agrees_line}
use Rattle.document_answers.specs.AnswerLaws.{ReplayIsDecided}
use Rattle.document_answers.proofs.JournalAnswers.{IsAgreesLine, IsRenewedText}

-- ---- one end

-- the parts of a document's record are one
pub one_record : (a : Contents) (d e : DocumentRecord a) → ◌≡◌ {A = Program × Config × Config} (e.program, e.start, e.final) (d.program, d.start, d.final)
one_record a d e =
    let program = one_at _ e.program d.program e.its_program d.its_program in
    let shape = one_at _ e.start d.start e.its_shape d.its_shape in
    let final = one_at _ e.final d.final e.its_final d.its_final in
    λ i. (program i, shape i, final i)

-- a status, a report if there is one, and a text that are the same
pub record SameEnd (s t : Status) (one two : Option Report) (first second : List ℕ) : Type 0 where
  pub status : s ≡ t
  pub report : SameIfAny one two
  pub text : first ≡ second

module _ {E : Type 0} (form : Entry → E) (decided : ReplayIsDecided form) (f : Shown → Verdict) (start : Config) (told : List E) (final : Config) (IsText : List Entry → List ℕ → Type 0)
    (one_run : (es ds : List Entry) → map form es ≡ told → map form ds ≡ told → Agrees f start es final → Agrees f start ds final → es ≡ ds)
    (one_text : (es : List Entry) (text other : List ℕ) → Agrees f start es final → IsText es text → IsText es other → text ≡ other) where
  one_entries : (s t : Status) (one two : Option Report) (text other : List ℕ) → EntriesOutcome form f start told final IsText s one text → EntriesOutcome form f start told final IsText t two other → SameEnd s t one two text other
  one_entries s t one two text other (agreeing es u tells run is) (agreeing ds v tell other_run so) =
      record { status = refl; report = tt; text = one_text es u v run is (subst (λ (zs : List Entry). IsText zs v) (sym (one_run es ds tells tell run other_run)) so) }
  one_entries s t one two text other (agreeing es u tells run is) (differing place differs) = absurd (decided.exclusive f start final told place (record { source = es; tells = tells; holds = run }) differs)
  one_entries s t one two text other (differing place differs) (agreeing es u tells run is) = absurd (decided.exclusive f start final told place (record { source = es; tells = tells; holds = run }) differs)
  one_entries s t one two text other (differing place differs) (differing there differ) =
      let same = decided.one_place f start final told place there differs differ in
      record { status = ap status.Differs same; report = tt; text = ap differs_line same }

-- the journal has old values or none, by the version
not_in_both : (a : Contents) (es : List Entry) (ps : List PlainEntry) → FitTogether a → a.entries ≡ Some es → a.plain ≡ Some ps → ⊥
not_in_both a es ps fit full plain = elim (cases_Bool (has_old_values a.version)) [
  | inl is ↦ none-some ps (sym (fit.by_version.0 is) ∙ plain)
  | inr without ↦ none-some es (sym (fit.by_version.1 without) ∙ full)
]

-- what the laws of lower crates say
pub record JournalRules : Type 0 where
  pub full : ReplayIsDecided full_entry
  pub plain : ReplayIsDecided plain_entry
  pub unique : PlainRunIsUnique

module _ (rules : JournalRules) (a : Contents) (fit : FitTogether a) (IsText : Program × Config × Config → List Entry → List ℕ → Type 0)
    (one_text : (z : Program × Config × Config) (es : List Entry) (text other : List ℕ) → Agrees (verdict_shown z.0) z.1 es z.2 → IsText z es text → IsText z es other → text ≡ other)
    (d : DocumentRecord a) where
  one_journal_of : (s t : Status) (one two : Option Report) (text other : List ℕ) → JournalOutcome a d (IsText (d.program, d.start, d.final)) s one text → JournalOutcome a d (IsText (d.program, d.start, d.final)) t two other → SameEnd s t one two text other
  one_journal_of s t one two text other (in_full es its is) (in_full ds yours so) =
      one_entries full_entry rules.full (verdict_shown d.program) d.start es d.final (IsText (d.program, d.start, d.final))
      (λ xs ys tells tell run other_run. sym (full_entries xs) ∙ tells ∙ sym tell ∙ full_entries ys) (one_text (d.program, d.start, d.final)) s t one two text other is
      (subst (λ (zs : List Entry). EntriesOutcome full_entry (verdict_shown d.program) d.start zs d.final (IsText (d.program, d.start, d.final)) t two other) (one_at _ ds es yours its) so)
  one_journal_of s t one two text other (in_full es its is) (in_plain ps yours so) = absurd (not_in_both a es ps fit its yours)
  one_journal_of s t one two text other (in_plain ps its is) (in_full es yours so) = absurd (not_in_both a es ps fit yours its)
  one_journal_of s t one two text other (in_plain ps its is) (in_plain qs yours so) =
      one_entries plain_entry rules.plain (verdict_shown d.program) d.start ps d.final (IsText (d.program, d.start, d.final))
      (λ xs ys tells tell run other_run. (rules.unique (verdict_shown d.program) d.start d.final d.final xs ys run other_run (tells ∙ sym tell)).0) (one_text (d.program, d.start, d.final)) s t one two text other is
      (subst (λ (zs : List PlainEntry). EntriesOutcome plain_entry (verdict_shown d.program) d.start zs d.final (IsText (d.program, d.start, d.final)) t two other) (one_at _ qs ps yours its) so)

  -- what is said of a document's journal is said of one program, one shape and one final shape
  journal_as : (e : DocumentRecord a) (s : Status) (report : Option Report) (text : List ℕ) → JournalOutcome a e (IsText (e.program, e.start, e.final)) s report text → JournalOutcome a d (IsText (d.program, d.start, d.final)) s report text
  journal_as e s report text (in_full es its is) = in_full es its (subst (λ (z : Program × Config × Config). EntriesOutcome full_entry (verdict_shown z.0) z.1 es z.2 (IsText z) s report text) (one_record a d e) is)
  journal_as e s report text (in_plain ps its is) = in_plain ps its (subst (λ (z : Program × Config × Config). EntriesOutcome plain_entry (verdict_shown z.0) z.1 ps z.2 (IsText z) s report text) (one_record a d e) is)

  pub one_journal : (e : DocumentRecord a) (s t : Status) (one two : Option Report) (text other : List ℕ) → JournalOutcome a d (IsText (d.program, d.start, d.final)) s one text → JournalOutcome a e (IsText (e.program, e.start, e.final)) t two other → SameEnd s t one two text other
  one_journal e s t one two text other x y = one_journal_of s t one two text other x (journal_as e t two other y)

-- ---- what an end has

module _ {E : Type 0} {form : Entry → E} {f : Shown → Verdict} {start : Config} {told : List E} {final : Config} {IsText : List Entry → List ℕ → Type 0} where
  entries_unreported : (s : Status) (report : Option Report) (text : List ℕ) → EntriesOutcome form f start told final IsText s report text → report ≡ None
  entries_unreported s report text (agreeing es u tells run is) = refl
  entries_unreported s report text (differing place differs) = refl

  -- where it is not done, the text does not matter
  entries_other : (Other : List Entry → List ℕ → Type 0) (s : Status) (report : Option Report) (text : List ℕ) → s ≢ status.Done → EntriesOutcome form f start told final IsText s report text → EntriesOutcome form f start told final Other s report text
  entries_other Other s report text other (agreeing es u tells run is) = absurd (other refl)
  entries_other Other s report text other (differing place differs) = differing place differs

module _ {a : Contents} {d : DocumentRecord a} {IsText : List Entry → List ℕ → Type 0} where
  pub unreported : (s : Status) (report : Option Report) (text : List ℕ) → JournalOutcome a d IsText s report text → report ≡ None
  unreported s report text (in_full es its is) = entries_unreported s report text is
  unreported s report text (in_plain ps its is) = entries_unreported s report text is

  pub other_end : (Other : List Entry → List ℕ → Type 0) (s : Status) (report : Option Report) (text : List ℕ) → s ≢ status.Done → JournalOutcome a d IsText s report text → JournalOutcome a d Other s report text
  other_end Other s report text other (in_full es its is) = in_full es its (entries_other Other s report text other is)
  other_end Other s report text other (in_plain ps its is) = in_plain ps its (entries_other Other s report text other is)

-- these entries of the journal are a run from the shape to the final shape
pub record JournalAgrees (a : Contents) (d : DocumentRecord a) (es : List Entry) : Type 0 where
  pub told : TellsEntries a es
  pub agrees : Agrees (verdict_shown d.program) d.start es d.final

-- a journal that agrees, and a text of its entries
pub record IsDoneJournal (a : Contents) (d : DocumentRecord a) (IsText : List Entry → List ℕ → Type 0) (text : List ℕ) : Type 0 where
  pub entries : List Entry
  pub agrees : JournalAgrees a d entries
  pub is_text : IsText entries text

done_in_full : (a : Contents) (d : DocumentRecord a) (IsText : List Entry → List ℕ → Type 0) (told : List Entry) (text : List ℕ) → a.entries ≡ Some told → EntriesOutcome full_entry (verdict_shown d.program) d.start told d.final IsText status.Done None text → IsDoneJournal a d IsText text
done_in_full a d IsText told text its (agreeing es u tells run is) = record { entries = es; agrees = record { told = inl (its ∙ ap Some (sym tells ∙ full_entries es)); agrees = run }; is_text = is }

done_in_plain : (a : Contents) (d : DocumentRecord a) (IsText : List Entry → List ℕ → Type 0) (told : List PlainEntry) (text : List ℕ) → a.plain ≡ Some told → EntriesOutcome plain_entry (verdict_shown d.program) d.start told d.final IsText status.Done None text → IsDoneJournal a d IsText text
done_in_plain a d IsText told text its (agreeing es u tells run is) = record { entries = es; agrees = record { told = inr (its ∙ ap Some (sym tells)); agrees = run }; is_text = is }

pub done_journal : (a : Contents) (d : DocumentRecord a) (IsText : List Entry → List ℕ → Type 0) (text : List ℕ) → JournalOutcome a d IsText status.Done None text → IsDoneJournal a d IsText text
done_journal a d IsText text (in_full es its is) = done_in_full a d IsText es text its is
done_journal a d IsText text (in_plain ps its is) = done_in_plain a d IsText ps text its is

-- and back
agreeing_as : (a : Contents) (d : DocumentRecord a) (IsText : List Entry → List ℕ → Type 0) (es : List Entry) (text : List ℕ) → TellsEntries a es → Agrees (verdict_shown d.program) d.start es d.final → IsText es text → JournalOutcome a d IsText status.Done None text
agreeing_as a d IsText es text (inl its) run is = in_full es its (agreeing es text (full_entries es) run is)
agreeing_as a d IsText es text (inr its) run is = in_plain (map plain_entry es) its (agreeing es text refl run is)

pub agreeing_journal : (a : Contents) (d : DocumentRecord a) (IsText : List Entry → List ℕ → Type 0) (es : List Entry) (text : List ℕ) → JournalAgrees a d es → IsText es text → JournalOutcome a d IsText status.Done None text
agreeing_journal a d IsText es text agrees is = agreeing_as a d IsText es text agrees.told agrees.agrees is

-- ---- as `replay` ends

-- what `replay` owes for a document whose journal agrees
pub replay_agrees : (bytes : List ℕ) (a : Contents) (d : DocumentRecord a) (es : List Entry) → IsDocumentOf Replay bytes a → JournalAgrees a d es → IsOwedFor Replay (whole bytes) status.Done (agrees_line (length es))
replay_agrees bytes a d es h agrees = served Replay bytes a status.Done None (agrees_line (length es)) h (d, agreeing_journal a d IsAgreesLine es (agrees_line (length es)) agrees refl)

-- A command that reads the documents of `replay` and is done with a text for each run ends as `replay` does.
module _ (c : DocumentCommand) (IsText : (a : Contents) → DocumentRecord a → List Entry → List ℕ → Type 0)
    (to_document : (bytes : List ℕ) (a : Contents) → IsDocumentOf c bytes a → IsDocumentOf Replay bytes a)
    (from_document : (bytes : List ℕ) (a : Contents) → IsDocumentOf Replay bytes a → IsDocumentOf c bytes a)
    (to_fault : (bytes : List ℕ) (r : _) → IsDocumentFaultOf c bytes r → IsDocumentFaultOf Replay bytes r)
    (from_fault : (bytes : List ℕ) (r : _) → IsDocumentFaultOf Replay bytes r → IsDocumentFaultOf c bytes r)
    (to_journal : (a : Contents) (s : Status) (report : Option Report) (text : List ℕ) → IsOutcome a c s report text → (d : DocumentRecord a) × JournalOutcome a d (IsText a d) s report text)
    (from_journal : (a : Contents) (s : Status) (report : Option Report) (text : List ℕ) (d : DocumentRecord a) → JournalOutcome a d (IsText a d) s report text → IsOutcome a c s report text)
    (text_of : (bytes : List ℕ) (a : Contents) (d : DocumentRecord a) (es : List Entry) → IsDocumentOf Replay bytes a → JournalAgrees a d es → (text : List ℕ) × IsText a d es text) where
  to_replay : (read : Read) (s : Status) (text : List ℕ) → s ≢ status.Done → IsOwedFor c read s text → IsOwedFor Replay read s text
  to_replay read s text other (read_fault e got) = read_fault Replay got
  to_replay read s text other (longer e got) = longer Replay got
  to_replay read s text other (refused e bytes r x) = refused Replay bytes r (to_fault bytes r x)
  to_replay read s text other (served e bytes a t report u h is) = let (d, x) = to_journal a s None text is in served Replay bytes a s None text (to_document bytes a h) (d, other_end IsAgreesLine s None text other x)

  from_replay : (read : Read) (s : Status) (text : List ℕ) → s ≢ status.Done → IsOwedFor Replay read s text → IsOwedFor c read s text
  from_replay read s text other (read_fault e got) = read_fault c got
  from_replay read s text other (longer e got) = longer c got
  from_replay read s text other (refused e bytes r x) = refused c bytes r (from_fault bytes r x)
  from_replay read s text other (served e bytes a t report u h (d, x)) = served c bytes a s None text (from_document bytes a h) (from_journal a s None text d (other_end (IsText a d) s None text other x))

  done_to_replay : (read : Read) (text : List ℕ) → IsOwedFor c read status.Done text → (line : List ℕ) × IsOwedFor Replay read status.Done line
  done_to_replay read text (served e bytes a t report u h is) =
      let (d, x) = to_journal a status.Done None text is in
      let by = done_journal a d (IsText a d) text x in
      (agrees_line (length by.entries), replay_agrees bytes a d by.entries (to_document bytes a h) by.agrees)

  done_from_replay : (read : Read) (line : List ℕ) → IsOwedFor Replay read status.Done line → (text : List ℕ) × IsOwedFor c read status.Done text
  done_from_replay read line (served e bytes a t report u h (d, x)) =
      let by = done_journal a d IsAgreesLine line x in
      let text = text_of bytes a d by.entries h by.agrees in
      (text.0, served c bytes a status.Done None text.0 (from_document bytes a h) (from_journal a status.Done None text.0 d (agreeing_journal a d (IsText a d) by.entries text.0 by.agrees text.1)))

  pub ends_as_replay : (read : Read) → EndsAsReplay c read
  ends_as_replay read = record {
    done = (λ owed. done_to_replay read owed.0 owed.1, λ owed. done_from_replay read owed.0 owed.1);
    other = λ s text not_done. (to_replay read s text not_done, from_replay read s text not_done);
  }
