-- The command `renew`: a document whose journal agrees,
-- written anew with the old values of each patch.
use Rattle.std.specs.Prelude.{◌≡◌, ℕ, List, [], ◌∷◌, ◌++◌, length, codes}
use Rattle.std.specs.declared.option.Option.{Option}
use Rattle.text_tokens.specs.Lines.{line_text}
use Rattle.amoebot_state.specs.declared.verdict.Entry.{Entry}
use Rattle.amoebot_state.specs.Configs.{Config}
use Rattle.claim_core.specs.declared.report.Report.{Report}
use Rattle.action_tree.specs.Trees.{Program}
use Rattle.action_print.specs.Canon.{canon}
use Rattle.journal_text.specs.Texts.{journal_text}
use Rattle.shape_text.specs.Texts.{shape_text}
use Rattle.shape_files.specs.Documents.{Contents}
use Rattle.document_answers.specs.declared.status.Status.{Status}
use Rattle.document_answers.specs.Journals.{DocumentRecord, JournalOutcome}

-- a document of version 3, with the program in its canonical form, the shape,
-- the entries with their old values, and the last shape
abbrev pub renewed_text : Program → Config → List Entry → Config → List ℕ
renewed_text p start entries last =
    line_text (codes "amoebot" ∷ codes "3" ∷ []) ++ canon p
    ++ shape_text (codes "shape") (length p.vars) start
    ++ journal_text (length p.vars) entries ++ shape_text (codes "final") (length p.vars) last

-- the journal agrees, and the document is written with the old values of its entries;
-- or the journal differs
abbrev pub RenewOutcome : Contents → Status → Option Report → List ℕ → Type 0
RenewOutcome a s report text =
    (d : DocumentRecord a)
    × JournalOutcome a d
    (λ (es : List Entry) (t : List ℕ). t ≡ renewed_text d.program d.start es d.final) s report text
