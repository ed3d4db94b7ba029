-- The command `replay`: whether a journal is a run of the program from the shape to the final
-- shape, and if not, where it differs.
use Rattle.std.specs.Prelude.{◌≡◌, ℕ, List, [], ◌∷◌, length, codes, decimal}
use Rattle.std.specs.declared.option.Option.{Option}
use Rattle.text_tokens.specs.Lines.{line_text}
use Rattle.amoebot_state.specs.declared.verdict.Entry.{Entry}
use Rattle.claim_core.specs.declared.report.Report.{Report}
use Rattle.shape_files.specs.Documents.{Contents}
use Rattle.document_answers.specs.declared.status.Status.{Status}
use Rattle.document_answers.specs.Journals.{DocumentRecord, JournalOutcome}

-- the line of a journal that agrees, of so many entries
abbrev pub agrees_line : ℕ → List ℕ
agrees_line count = line_text (codes "agrees" ∷ decimal count ∷ [])

-- The journal agrees, and the line has the number of its entries. Or the journal differs.
abbrev pub ReplayOutcome : Contents → Status → Option Report → List ℕ → Type 0
ReplayOutcome a s report text =
    (d : DocumentRecord a)
    × JournalOutcome a d (λ (es : List Entry) (t : List ℕ). t ≡ agrees_line (length es)) s report text
