-- The text of a report, and the commands that end with one.
use Rattle.std.specs.Prelude.{◌≡◌, ℕ, List, ◌++◌, length, codes}
use Rattle.std.specs.declared.option.Option.{Option}
use Rattle.std.specs.declared.option.Option.TheVariants.{Some}
use Rattle.amoebot_state.specs.Configs.{Config}
use Rattle.journal_text.specs.Texts.{journal_of_version, turns_text}
use Rattle.claim_core.specs.declared.report.Report.{Report}
use Rattle.claim_core.specs.Turns.{CallerLists}
use Rattle.action_tree.specs.Trees.{Program}
use Rattle.shape_text.specs.Texts.{shape_text}
use Rattle.shape_files.specs.Documents.{Contents}
use Rattle.document_answers.specs.declared.status.Status.{Status}
use Rattle.document_answers.specs.declared.status.Status.TheVariants as status

-- Its journal as texts of the version have it, its last shape under the word `final`,
-- and its turns.
-- An amoebot has the values of so many variables.
abbrev pub report_text : ℕ → ℕ → Report → List ℕ
report_text version vars r =
    journal_of_version version vars r.journal.entries
    ++ shape_text (codes "final") vars r.world ++ turns_text r.turns

-- the lists of a document, with its program and its shape
pub record DocumentLists (a : Contents) : Type 0 where
  pub program : Program
  pub start : Config
  pub lists : CallerLists
  pub its_program : a.checked ≡ Some program
  pub its_shape : a.world ≡ Some start
  pub its_lists : a.lists ≡ Some lists

-- the command is done with a report of the document's lists,
-- and with its text in the document's version
pub data ReportOutcome (a : Contents)
    (IsReport : DocumentLists a → Report → Type 0) : Status → Option Report → List ℕ → Type 0 where
  reported : (d : DocumentLists a) (report : Report)
      → IsReport d report
      → ReportOutcome a IsReport status.Done (Some report)
      (report_text a.version (length d.program.vars) report)
