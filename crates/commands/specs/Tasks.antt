-- What is to be done for an input: it is answered, or workers are to run lists.
use Rattle.std.specs.Prelude.{◌≡◌, ◌≢◌, ℕ, List, length, IsSome, ⊤}
use Rattle.std.specs.List.{All}
use Rattle.std.specs.declared.option.Option.{Option}
use Rattle.std.specs.declared.option.Option.TheVariants.{Some}
use Rattle.amoebot_state.specs.Configs.{bot_at}
use Rattle.serial_model.specs.Replays.{AreCountable}
use Rattle.claim_core.specs.declared.report.Report.{Report}
use Rattle.claim_core.specs.Turns.{CallerLists}
use Rattle.claim_core.specs.Machine.{Setup, setup}
use Rattle.claim_core.specs.Good.{Good}
use Rattle.claim_core.specs.Reached.{Reached}
use Rattle.claim_core.specs.Tickets.{TicketReached}
use Rattle.action_tree.specs.Trees.{Program}
use Rattle.action_meaning.specs.Verdicts.{verdict_shown}
use Rattle.shape_files.specs.Documents.{Contents}
use Rattle.run_sample.specs.Whole.{IsSample}
use Rattle.document_answers.specs.Reports.{report_text}
use Rattle.commands.specs.Sample.{IsSampleText}
use Rattle.commands.specs.declared.words.Command.{Command}
use Rattle.commands.specs.declared.words.Command.TheVariants.{Document, Sample}
use Rattle.commands.specs.declared.words.DocumentCommand.{DocumentCommand}
use Rattle.commands.specs.declared.words.DocumentCommand.TheVariants.{Tickets}
use Rattle.document_answers.specs.declared.answer.Answer.{Answer}
use Rattle.commands.specs.declared.prepared.Maker.{Maker}
use Rattle.commands.specs.declared.prepared.Maker.TheVariants as maker
use Rattle.commands.specs.declared.prepared.Prepared.{Prepared}
use Rattle.commands.specs.declared.tasks.Task.{Task}
use Rattle.commands.specs.declared.tasks.Task.TheVariants as task
use Rattle.commands.specs.declared.prepared.Telling.{Telling}
use Rattle.commands.specs.declared.prepared.Telling.TheVariants as telling
use Rattle.document_answers.specs.declared.status.Status.TheVariants as status
use Rattle.commands.specs.Commands.{IsDocumentOf, NeedsWorkers, TurnMaker, maker_of, the_tickets, the_workers}
use Rattle.commands.specs.Reads.{Read, nothing, whole}
use Rattle.commands.specs.Owed.{IsOwed}

-- ---- runs that workers make

-- a text that tells a report: the report's own in a version, or the lines of a sample's number
abbrev pub Tells : Telling → Program → CallerLists → Report → List ℕ → Type 0
Tells (telling.Report version) p lists report text = text ≡ report_text version (length p.vars) report
Tells (telling.Sample seed) p lists report text =
    IsSampleText (verdict_shown p) report.journal.first lists seed report text

-- an answer is done with a report, and its text tells it
pub record TellsReport (t : Telling) (p : Program) (lists : CallerLists)
    (report : Report) (answer : Answer) : Type 0 where
  pub done : answer.status ≡ status.Done
  pub its_report : answer.report ≡ Some report
  pub text : Tells t p lists report answer.text

-- a report that gets the lines of a sample has few entries
abbrev pub IsCounted : Telling → Report → Type 0
IsCounted (telling.Report version) report = ⊤
IsCounted (telling.Sample seed) report = AreCountable report.journal.entries

-- what the table calls those who are to make turns
abbrev pub turn_maker : Maker → TurnMaker
turn_maker maker.Workers = the_workers
turn_maker maker.Tickets = the_tickets

-- who is to make the turns of the lists of a document
abbrev pub maker_for : DocumentCommand → Maker
maker_for Tickets = maker.Tickets
maker_for c = maker.Workers

-- their steps give the report
abbrev pub ReachedBy : Maker → Setup → Report → Type 0
ReachedBy maker.Workers g report = Reached g report
ReachedBy maker.Tickets g report = TicketReached g report

-- whose lists are to be run, under which program and from which shape on, which text the run gets,
-- and who makes its turns
pub data IsRunFor (run : Prepared) : Option Command → Read → Type 0 where
  -- those of a document; it gets the text of its report in the document's version
  of_document : (c : DocumentCommand) (bytes : List ℕ) (a : Contents)
      → IsDocumentOf c bytes a
      → a.checked ≡ Some run.runner
      → a.world ≡ Some run.world
      → a.lists ≡ Some run.lists
      → run.telling ≡ telling.Report a.version
      → run.maker ≡ maker_for c
      → IsRunFor run (Some (Document c)) (whole bytes)
  -- those of a number's sample; it gets the six lines
  of_number : (seed : ℕ)
      → IsSample seed (record { checked = run.runner; world = run.world; lists = run.lists })
      → run.telling ≡ telling.Sample seed
      → run.maker ≡ maker.Workers
      → IsRunFor run (Some (Sample seed)) nothing

-- Workers are to run lists for a command, whose amoebots are there.
-- They are those that make the command's turns.
-- Each good report of them, which their steps give, is owed with each text that tells it.
pub record IsPrepared (command : Option Command) (read : Read) (run : Prepared) : Type 0 where
  pub its_maker : maker_of command ≡ turn_maker run.maker
  pub its_lists : IsRunFor run command read
  pub there : All (All (λ (id : ℕ). IsSome (bot_at run.world id))) run.lists.ids
  pub few : (report : Report) → Good (verdict_shown run.runner) run.world run.lists report
      → IsCounted run.telling report
  pub owed : (report : Report) (text : List ℕ)
      → Good (verdict_shown run.runner) run.world run.lists report
      → ReachedBy run.maker (setup (verdict_shown run.runner) run.world run.lists) report
      → Tells run.telling run.runner run.lists report text
      → IsOwed command read status.Done (Some report) text

-- ---- tasks

-- What is to be done for a whole input.
-- It is answered, which is never Done of a command whose turns workers make.
-- Or it is a document whose lists workers are to run.
abbrev pub IsTaskOf : DocumentCommand → List ℕ → Task → Type 0
IsTaskOf c bytes (task.Answered answer) =
    IsOwed (Some (Document c)) (whole bytes) answer.status answer.report answer.text
    × (NeedsWorkers (Some (Document c)) → answer.status ≢ status.Done)
IsTaskOf c bytes (task.Run run) = IsPrepared (Some (Document c)) (whole bytes) run

-- the same for each whole input that is a document with these contents
abbrev pub IsTaskTo : DocumentCommand → Contents → Task → Type 0
IsTaskTo c a t = (bytes : List ℕ) → IsDocumentOf c bytes a → IsTaskOf c bytes t
