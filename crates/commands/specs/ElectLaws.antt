-- What `elect` says of the run of a document, and how it ends.
use Rattle.std.specs.Prelude.{◌≡◌, ℕ, List}
use Rattle.amoebot_state.specs.declared.verdict.Entry.{Entry}
use Rattle.amoebot_state.specs.Configs.{Config}
use Rattle.amoebot_state.specs.Steps.{IsWorldAt}
use Rattle.shape_checks.specs.Values.{value_count}
use Rattle.action_meaning.specs.Verdicts.{verdict_shown}
use Rattle.election_law.specs.Elections.{IsErosion, IsReadyStart, IsElected, cand_var, leader_of}
use Rattle.shape_files.specs.Documents.{Contents}
use Rattle.commands.specs.Elect.{election_text}
use Rattle.commands.specs.declared.words.DocumentCommand.TheVariants.{Elect}
use Rattle.document_answers.specs.declared.status.Status.TheVariants as status
use Rattle.commands.specs.Commands.{IsDocumentOf}
use Rattle.document_answers.specs.Journals.{Agrees, DocumentRecord, TellsEntries}
use Rattle.commands.specs.Reads.{whole}
use Rattle.commands.specs.RenewLaws.{EndsAsReplay, IsOwedFor}

-- These entries of the document's journal are a run of its program,
-- from its shape to its final shape.
-- At most one amoebot leads in each world of that run,
-- and the text tells the candidates and the leader of the last one.
pub record IsWonElection (a : Contents) (text : List ℕ) : Type 0 where
  pub document : DocumentRecord a
  pub entries : List Entry
  pub told : TellsEntries a entries
  pub agrees : Agrees (verdict_shown document.program) document.start entries document.final
  pub elected : (place : ℕ) (world : Config)
      → IsWorldAt (verdict_shown document.program) document.start entries place world
      → IsElected world
  pub writes : text ≡ election_text (value_count document.final cand_var 1) (leader_of document.final)

-- so it is with each document for which `elect` is done
abbrev pub ElectionsAreWon : Type 0
ElectionsAreWon =
    (bytes text : List ℕ) (a : Contents)
    → IsDocumentOf Elect bytes a
    → IsOwedFor Elect (whole bytes) status.Done text
    → IsWonElection a text

-- for a document whose program is `erosion` and whose shape is a ready start,
-- `elect` is done where `replay` is done, and with each other status it ends as `replay` does
abbrev pub ElectEndsAsReplay : Type 0
ElectEndsAsReplay =
    (bytes : List ℕ) (a : Contents) (d : DocumentRecord a)
    → IsDocumentOf Elect bytes a
    → IsErosion d.program
    → IsReadyStart d.start
    → EndsAsReplay Elect (whole bytes)
