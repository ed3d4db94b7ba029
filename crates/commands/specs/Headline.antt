-- What a call tells that has a report: the headline, for the commands that make turns.
use Rattle.std.specs.Prelude.{◌≡◌, ℕ, List, length}
use Rattle.std.specs.declared.option.Option.TheVariants.{Some}
use Rattle.tri_lattice.specs.Sets.{IsConnected}
use Rattle.amoebot_state.specs.Configs.{Config}
use Rattle.amoebot_state.specs.Occupied.{occupied}
use Rattle.claim_core.specs.declared.report.Report.{Report}
use Rattle.claim_core.specs.Turns.{CallerLists}
use Rattle.amoebot_state.specs.Steps.{IsWorldAt}
use Rattle.claim_core.specs.Good.{Good}
use Rattle.claim_core.specs.Reached.{Reached}
use Rattle.action_tree.specs.Trees.{Program}
use Rattle.action_meaning.specs.Verdicts.{verdict_shown}
use Rattle.run_sample.specs.declared.whole.Sample.{Sample as SampleValue}
use Rattle.run_sample.specs.Whole.{IsSample}
use Rattle.shape_files.specs.Documents.{Contents}
use Rattle.commands.specs.ReportLaws.{StaysConnectedIn}
use Rattle.claim_core.specs.Machine.{setup}
use Rattle.document_answers.specs.Reports.{report_text}
use Rattle.commands.specs.Run.{IsRunReport}
use Rattle.commands.specs.declared.words.DocumentCommand.{DocumentCommand}
use Rattle.commands.specs.Commands.{IsDocumentOf}
use Rattle.commands.specs.Sample.{six_lines}

-- The bytes are a document of the command, which has a program, a shape and lists.
-- The report is a good one of the lists' turns under the program, from the shape on,
-- and an interleaving gives it.
-- With at most one list it is what the turns leave, one after another, none of them Busy.
-- If the guard is on and the shape is connected, then it is so in each world of the run.
-- The text is the report's.
pub record IsRunOfDocument (c : DocumentCommand) (bytes : List ℕ)
    (report : Report) (text : List ℕ) : Type 0 where
  pub contents : Contents
  pub program : Program
  pub start : Config
  pub lists : CallerLists
  pub document : IsDocumentOf c bytes contents
  pub its_program : contents.checked ≡ Some program
  pub its_shape : contents.world ≡ Some start
  pub its_lists : contents.lists ≡ Some lists
  pub run : IsRunReport Reached (verdict_shown program) start lists report
  pub connected : StaysConnectedIn program start report.journal.entries
  pub writes : text ≡ report_text contents.version (length program.vars) report

-- The report is a good one of the turns of the number's sample, and an interleaving gives it.
-- The shape is connected in each world of the run.
-- The text is the six lines that tell so.
pub record IsRunOfSample (seed : ℕ) (report : Report) (text : List ℕ) : Type 0 where
  pub sample : SampleValue
  pub its_sample : IsSample seed sample
  pub good : Good (verdict_shown sample.checked) sample.world sample.lists report
  pub reached : Reached (setup (verdict_shown sample.checked) sample.world sample.lists) report
  pub connected : (place : ℕ) (world : Config)
      → IsWorldAt (verdict_shown sample.checked) sample.world report.journal.entries place world
      → IsConnected (occupied world)
  pub writes : text ≡ six_lines seed
