-- What a document records of a run: its journal, which agrees with the model or differs from it.
use Rattle.std.specs.Prelude.{◌≡◌, ◌≢◌, ◌⊎◌, ℕ, List, [], ◌∷◌, length, map, codes, decimal}
use Rattle.std.specs.declared.option.Option.{Option}
use Rattle.std.specs.declared.option.Option.TheVariants.{Some, None}
use Rattle.text_tokens.specs.Lines.{line_text}
use Rattle.amoebot_state.specs.declared.verdict.Entry.{Entry}
use Rattle.amoebot_state.specs.declared.verdict.PlainEntry.{PlainEntry}
use Rattle.amoebot_state.specs.declared.verdict.Verdict.{Verdict}
use Rattle.amoebot_state.specs.Configs.{Config}
use Rattle.amoebot_state.specs.Zones.{Shown}
use Rattle.amoebot_state.specs.Steps.{Run, plain_entry}
use Rattle.serial_model.specs.Forms.{InForm, full_entry}
use Rattle.serial_model.specs.Replays.{IsFirstNoStep, RunIn}
use Rattle.claim_core.specs.declared.report.Report.{Report}
use Rattle.action_tree.specs.Trees.{Program}
use Rattle.action_meaning.specs.Verdicts.{verdict_shown}
use Rattle.shape_files.specs.Documents.{Contents}
use Rattle.document_answers.specs.declared.status.Status.{Status}
use Rattle.document_answers.specs.declared.status.Status.TheVariants as status

-- ---- entries and a run

-- the entries are a run from the start, and the final shape is its last world
abbrev pub Agrees : (Shown → Verdict) → Config → List Entry → Config → Type 0
Agrees f start entries final = Run f start entries final

-- entries that are told in a form are those of such a run
abbrev pub AgreesIn : {E : Type 0} → (Entry → E) → (Shown → Verdict) → Config → List E → Config → Type 0
AgreesIn form f start told final = InForm (map form) (λ (es : List Entry). Agrees f start es final) told

-- Or they differ at a place. That is the first entry that is no step.
-- Where all are steps it is their number, since the final shape is another than the last world.
pub data DiffersAt {E : Type 0} (form : Entry → E) (f : Shown → Verdict) (start : Config) (told : List E)
    (final : Config) : ℕ → Type 0 where
  at_entry : (place : ℕ) → IsFirstNoStep form f start told place → DiffersAt form f start told final place
  at_end : (last : Config)
      → RunIn form f start told last
      → last ≢ final
      → DiffersAt form f start told final (length told)

-- the line of a journal that differs at a place
abbrev pub differs_line : ℕ → List ℕ
differs_line place = line_text (codes "differs" ∷ decimal place ∷ [])

-- How a command ends for entries that are told in a form, always without a report.
-- They agree, and it is done with a text of that run's entries.
-- Or they differ at a place, and the text is the line that says so.
pub data EntriesOutcome {E : Type 0} (form : Entry → E)
    (f : Shown → Verdict) (start : Config) (told : List E) (final : Config)
    (IsText : List Entry → List ℕ → Type 0) : Status → Option Report → List ℕ → Type 0 where
  agreeing : (es : List Entry) (text : List ℕ)
      → map form es ≡ told
      → Agrees f start es final
      → IsText es text
      → EntriesOutcome form f start told final IsText status.Done None text
  differing : (place : ℕ)
      → DiffersAt form f start told final place
      → EntriesOutcome form f start told final IsText (status.Differs place) None (differs_line place)

-- ---- the journal of a document

-- the program of a document, its shape and its final shape
pub record DocumentRecord (a : Contents) : Type 0 where
  pub program : Program
  pub start : Config
  pub final : Config
  pub its_program : a.checked ≡ Some program
  pub its_shape : a.world ≡ Some start
  pub its_final : a.final_world ≡ Some final

-- the journal of a document has these entries: with the old values of their patches, or without
abbrev pub TellsEntries : Contents → List Entry → Type 0
TellsEntries a es = (a.entries ≡ Some es) ⊎ (a.plain ≡ Some (map plain_entry es))

-- how a command ends for the journal of a document, in the form that it has
pub data JournalOutcome (a : Contents) (d : DocumentRecord a) (IsText : List Entry → List ℕ → Type 0)
    (s : Status) (report : Option Report) (text : List ℕ) : Type 0 where
  in_full : (es : List Entry)
      → a.entries ≡ Some es
      → EntriesOutcome full_entry (verdict_shown d.program) d.start es d.final IsText s report text
      → JournalOutcome a d IsText s report text
  in_plain : (ps : List PlainEntry)
      → a.plain ≡ Some ps
      → EntriesOutcome plain_entry (verdict_shown d.program) d.start ps d.final IsText s report text
      → JournalOutcome a d IsText s report text
