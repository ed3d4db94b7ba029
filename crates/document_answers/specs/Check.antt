-- The command `check`: the program of a document, written as its canonical text.
use Rattle.std.specs.Prelude.{◌≡◌, ℕ, List, [], ◌∷◌, ◌++◌, codes, decimal}
use Rattle.std.specs.declared.option.Option.{Option}
use Rattle.std.specs.declared.option.Option.TheVariants.{Some}
use Rattle.text_tokens.specs.Lines.{line_text}
use Rattle.claim_core.specs.declared.report.Report.{Report}
use Rattle.action_tree.specs.Trees.{Program}
use Rattle.action_print.specs.Canon.{canon}
use Rattle.shape_files.specs.Documents.{Contents}
use Rattle.document_answers.specs.declared.status.Status.{Status}
use Rattle.document_answers.specs.Texts.{TextOutcome}

-- the first line of a document of this version, and the canonical program
abbrev pub check_text : ℕ → Program → List ℕ
check_text version p = line_text (codes "amoebot" ∷ decimal version ∷ []) ++ canon p

-- the text is that of the document's program, in the document's version
abbrev pub CheckOutcome : Contents → Status → Option Report → List ℕ → Type 0
CheckOutcome a =
    TextOutcome (λ (text : List ℕ). (p : Program) × (a.checked ≡ Some p) × (text ≡ check_text a.version p))
