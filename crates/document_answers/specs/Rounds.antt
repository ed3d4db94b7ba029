-- The command `rounds`: how many asynchronous rounds of a run have ended,
-- and how many amoebots wait.
use Rattle.std.specs.Prelude.{◌≡◌, ℕ, List, [], ◌∷◌, ◌++◌, codes, decimal, map}
use Rattle.std.specs.declared.option.Option.{Option}
use Rattle.text_tokens.specs.Lines.{line_text}
use Rattle.amoebot_state.specs.declared.verdict.Entry.{Entry}
use Rattle.amoebot_state.specs.declared.verdict.Verdict.{Verdict}
use Rattle.amoebot_state.specs.Configs.{Config}
use Rattle.amoebot_state.specs.Zones.{Shown}
use Rattle.serial_model.specs.Forms.{InForm}
use Rattle.claim_core.specs.declared.report.Report.{Report}
use Rattle.round_meter.specs.Rounds.{IsRounded}
use Rattle.action_meaning.specs.Verdicts.{verdict_shown}
use Rattle.shape_files.specs.Documents.{Contents}
use Rattle.document_answers.specs.declared.status.Status.{Status}
use Rattle.document_answers.specs.Journals.{Agrees, DocumentRecord, JournalOutcome}

-- the entries are a run from the start to the final shape, so many rounds of it have ended,
-- and so many amoebots wait
pub record AgreesInRounds (f : Shown → Verdict) (start : Config)
    (entries : List Entry) (final : Config) (rounds waiting : ℕ) : Type 0 where
  pub agrees : Agrees f start entries final
  pub counted : IsRounded f start entries rounds waiting

-- entries that are told in a form are those of such a run
abbrev pub CountedIn : {E : Type 0} → (Entry → E)
    → (Shown → Verdict) → Config → List E → Config → ℕ → ℕ → Type 0
CountedIn form f start told final rounds waiting =
    InForm (map form) (λ (es : List Entry). AgreesInRounds f start es final rounds waiting) told

abbrev pub rounds_text : ℕ → ℕ → List ℕ
rounds_text rounds waiting =
    line_text (codes "rounds" ∷ decimal rounds ∷ []) ++ line_text (codes "waiting" ∷ decimal waiting ∷ [])

-- the text of a run's entries: how many of its rounds have ended, and how many amoebots wait
pub record IsRoundsText (f : Shown → Verdict) (start : Config)
    (entries : List Entry) (text : List ℕ) : Type 0 where
  pub rounds : ℕ
  pub waiting : ℕ
  pub counted : IsRounded f start entries rounds waiting
  pub whole : text ≡ rounds_text rounds waiting

-- The journal agrees, and the text tells its rounds. Or the journal differs.
abbrev pub RoundsOutcome : Contents → Status → Option Report → List ℕ → Type 0
RoundsOutcome a s report text =
    (d : DocumentRecord a) × JournalOutcome a d (IsRoundsText (verdict_shown d.program) d.start) s report text
