-- Commands that end with a text alone.
use Rattle.std.specs.Prelude.{ℕ, List}
use Rattle.std.specs.declared.option.Option.{Option}
use Rattle.std.specs.declared.option.Option.TheVariants.{None}
use Rattle.claim_core.specs.declared.report.Report.{Report}
use Rattle.document_answers.specs.declared.status.Status.{Status}
use Rattle.document_answers.specs.declared.status.Status.TheVariants as status

-- the command is done with a text of which this holds, and with no report
pub data TextOutcome (IsText : List ℕ → Type 0) : Status → Option Report → List ℕ → Type 0 where
  written : (text : List ℕ) → IsText text → TextOutcome IsText status.Done None text
