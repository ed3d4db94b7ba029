-- What a call owes.
use Rattle.std.specs.Prelude.{ℕ, List}
use Rattle.std.specs.declared.option.Option.{Option}
use Rattle.std.specs.declared.option.Option.TheVariants.{Some, None}
use Rattle.text_tokens.specs.declared.refusal.Refusal.{Refusal}
use Rattle.claim_core.specs.declared.report.Report.{Report}
use Rattle.shape_files.specs.Documents.{Contents}
use Rattle.shipped_programs.specs.declared.shipped.Shipped.{Shipped}
use Rattle.commands.specs.declared.words.Command.{Command}
use Rattle.commands.specs.declared.words.Command.TheVariants.{Document, Show, Sample}
use Rattle.commands.specs.declared.words.DocumentCommand.{DocumentCommand}
use Rattle.document_answers.specs.declared.status.Status.{Status}
use Rattle.document_answers.specs.declared.status.Status.TheVariants as status
use Rattle.commands.specs.Commands.{IsDocumentOf, IsDocumentFaultOf}
use Rattle.commands.specs.Lines.{usage_line, read_fault_line, too_long}
use Rattle.document_answers.specs.Answers.{refusal_line}
use Rattle.commands.specs.Reads.{Read, nothing, whole, above, up_to_fault}
use Rattle.commands.specs.Outcomes.{IsOutcome}
use Rattle.commands.specs.Sample.{IsTextOfSample}
use Rattle.commands.specs.Show.{show_text}

-- What a call owes, by its command, if the words are one, and by what the input came to.
-- That is the status, the report, and the text or line that is to be written.
pub data IsOwed : Option Command → Read → Status → Option Report → List ℕ → Type 0 where
  -- the words are no command
  usage : IsOwed None nothing status.Words None usage_line
  -- a read failed
  read_fault : (c : DocumentCommand) (got : List ℕ)
      → IsOwed (Some (Document c)) (up_to_fault got) status.ReadFault None read_fault_line
  -- the input is longer than a document of the command may be
  longer : (c : DocumentCommand) (got : List ℕ)
      → IsOwed (Some (Document c)) (above got) (status.Refused too_long) None (refusal_line too_long)
  -- the whole input is no document of the command, and this is its first fault
  refused : (c : DocumentCommand) (bytes : List ℕ) (r : Refusal)
      → IsDocumentFaultOf c bytes r
      → IsOwed (Some (Document c)) (whole bytes) (status.Refused r) None (refusal_line r)
  -- it is a document of the command, and this is an outcome of it
  served : (c : DocumentCommand) (bytes : List ℕ) (a : Contents)
      (s : Status) (report : Option Report) (text : List ℕ)
      → IsDocumentOf c bytes a
      → IsOutcome a c s report text
      → IsOwed (Some (Document c)) (whole bytes) s report text
  -- a shipped program is shown as `check` writes one; nothing is read
  shown : (program : Shipped) → IsOwed (Some (Show program)) nothing status.Done None (show_text program)
  -- the sample of a number is run; nothing is read
  sampled : (seed : ℕ) (report : Report) (text : List ℕ)
      → IsTextOfSample seed report text
      → IsOwed (Some (Sample seed)) nothing status.Done (Some report) text
