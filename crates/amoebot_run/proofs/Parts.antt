-- What each part of `run` comes to.
use Rattle.std.proofs.Common.{◌≡◌, ℕ, List, Option, Some, None, sym, subst}
use Rattle.outer_io.specs.declared.sink.Sink.{Ghosts as SinkOf}
use Rattle.claim_core.specs.declared.report.Report.{Report}
use Rattle.claim_core.specs.Turns.{CallerLists}
use Rattle.claim_core.specs.Good.{Good}
use Rattle.amoebot_state.specs.Configs.{Config}
use Rattle.action_tree.specs.Trees.{Program}
use Rattle.action_meaning.specs.Verdicts.{verdict_shown}
use Rattle.commands.specs.declared.words.Command.{Command}
use Rattle.commands.specs.declared.words.Command.TheVariants.{Document}
use Rattle.commands.specs.declared.words.DocumentCommand.{DocumentCommand}
use Rattle.document_answers.specs.declared.answer.Answer.{Answer}
use Rattle.commands.specs.declared.prepared.Prepared.{Prepared}
use Rattle.commands.specs.declared.tasks.Task.TheVariants as task
use Rattle.commands.specs.declared.prepared.Telling.{Telling}
use Rattle.document_answers.specs.declared.status.Status.{Status}
use Rattle.document_answers.specs.declared.status.Status.TheVariants as status
use Rattle.commands.specs.Tasks.{IsPrepared, IsTaskOf, TellsReport, Tells}
use Rattle.commands.specs.Owed.{IsOwed}
use Rattle.commands.specs.Reads.{Read, whole}
use Rattle.amoebot_run.specs.declared.begin.Begun.{Begun}
use Rattle.amoebot_run.specs.declared.begin.Begun.TheVariants as begun
use Rattle.amoebot_run.specs.declared.ended.Ended.{Ended}
use Rattle.amoebot_run.specs.declared.turns.Made.{Made}
use Rattle.amoebot_run.specs.declared.turns.MadeTurns.{MadeTurns}
use Rattle.amoebot_run.specs.Clauses.{WroteAll, WroteFront}
use Rattle.amoebot_run.specs.Endings.{IsEnding, wanting, IsReadWithinLimit}
use Rattle.amoebot_run.specs.Parts.{IsEndOfWriting, IsBegun, has_ended, is_to_run, IsMade, IsEndedRun, told, untold, journal_turns, ticket_turns}
use Rattle.amoebot_run.proofs.Endings.{ending_of, ending_maps, without}
use Rattle.amoebot_run.proofs.WorkingLemmas.{HasItsTurns, line_turns, none_told, told_by_maker, turns_of, without_turns}

-- ---- the first part

-- the call has ended, and has its turns
pub has_ended_with : {command : Option Command} {Reads : Read → Type 0} {Writes Cuts : List ℕ → Type 0} {Untouched : Type 0} (ended : Ended)
    → IsEnding command Reads Writes Cuts Untouched ended.status ended.report → HasItsTurns command ended
    → IsBegun command Reads Writes Cuts Untouched (begun.Ended ended)
has_ended_with ended ending has = has_ended ended ending has.turns_there has.tickets_there

-- a line was written, and no report comes with it
pub line_begun : {K : Type 0} {sink : SinkOf K} {old new : K} {Reads : Read → Type 0} {Untouched : Type 0} (command : Option Command) (read : Read) (s : Status) (line : List ℕ) (ended : Ended)
    → (s ≡ status.Done → ⊥) → Reads read → IsOwed command read s None line → IsEndOfWriting sink old new s None None None line ended
    → IsBegun command Reads (WroteAll sink old new) (WroteFront sink old new) Untouched (begun.Ended ended)
line_begun command read s line ended not reads owes writes = has_ended_with ended (ending_of read s None None None line ended reads owes writes) (line_turns command s line ended not writes)

-- it was out of memory
pub without_begun : {Reads : Read → Type 0} {Writes Cuts : List ℕ → Type 0} {Untouched : Type 0} (command : Option Command) (read : Read) (ended : Ended)
    → ended ≡ record { status = status.NoMemory; report = None; turns = None; tickets = None } → Reads read → IsReadWithinLimit read → Untouched
    → IsBegun command Reads Writes Cuts Untouched (begun.Ended ended)
without_begun command read ended is reads within untouched = has_ended_with ended (without read ended is reads within untouched) (without_turns command ended is)

-- a document was answered
pub answer_begun : {K : Type 0} {sink : SinkOf K} {old new : K} {Reads : Read → Type 0} {Untouched : Type 0} (c : DocumentCommand) (bytes : List ℕ) (answer : Answer) (ended : Ended)
    → Reads (whole bytes) → IsTaskOf c bytes (task.Answered answer) → IsEndOfWriting sink old new answer.status answer.report None None answer.text ended
    → IsBegun (Some (Document c)) Reads (WroteAll sink old new) (WroteFront sink old new) Untouched (begun.Ended ended)
answer_begun c bytes answer ended reads is writes = has_ended_with ended
    (ending_of (whole bytes) answer.status answer.report None None answer.text ended reads is.0 writes)
    (turns_of (Some (Document c)) answer.status answer.report None None answer.text ended (none_told (Some (Document c)) answer.status answer.report (λ done needs. is.1 needs done)) writes)

-- of the command that the words are
pub begun_at : (Reads : Option Command → Read → Type 0) {Writes Cuts : List ℕ → Type 0} {Untouched : Type 0} {b : Begun} (one two : Option Command) → one ≡ two
    → IsBegun one (Reads one) Writes Cuts Untouched b → IsBegun two (Reads two) Writes Cuts Untouched b
begun_at Reads {Writes = Writes} {Cuts = Cuts} {Untouched = Untouched} {b = b} one two e is = subst (λ (o : Option Command). IsBegun o (Reads o) Writes Cuts Untouched b) e is

-- with other words for the same
pub begun_maps : {Reads Reads' : Read → Type 0} {Writes Writes' Cuts Cuts' : List ℕ → Type 0} {Untouched Untouched' : Type 0}
    → ((r : Read) → Reads r → Reads' r) → ((t : List ℕ) → Writes t → Writes' t) → ((t : List ℕ) → Cuts t → Cuts' t) → (Untouched → Untouched')
    → (command : Option Command) (b : Begun) → IsBegun command Reads Writes Cuts Untouched b → IsBegun command Reads' Writes' Cuts' Untouched' b
begun_maps f g h k command _ (has_ended ended ending turns tickets) = has_ended ended (ending_maps f g h k command ended.status ended.report ending) turns tickets
begun_maps f g h k command _ (is_to_run run read untouched reads within ready) = is_to_run run read (k untouched) (f read reads) within ready

-- of a call whose lists are to be run
pub record IsReady (command : Option Command) (Reads : Read → Type 0) (Untouched : Type 0) (run : Prepared) : Type 0 where
  pub read : Read
  pub untouched : Untouched
  pub reads : Reads read
  pub within : IsReadWithinLimit read
  pub prepared : IsPrepared command read run

-- what it says of a call that has ended, and of one whose lists are to be run
module _ {command : Option Command} {Reads : Read → Type 0} {Writes Cuts : List ℕ → Type 0} {Untouched : Type 0} where
  pub ended_of : (ended : Ended) → IsBegun command Reads Writes Cuts Untouched (begun.Ended ended) → IsEnding command Reads Writes Cuts Untouched ended.status ended.report
  ended_of ended (has_ended same ending turns tickets) = ending

  pub its_turns : (ended : Ended) → IsBegun command Reads Writes Cuts Untouched (begun.Ended ended) → HasItsTurns command ended
  its_turns ended (has_ended same ending turns tickets) = record { turns_there = turns; tickets_there = tickets }

  pub ready_of : (run : Prepared) → IsBegun command Reads Writes Cuts Untouched (begun.Run run) → IsReady command Reads Untouched run
  ready_of run (is_to_run same read untouched reads within prepared) = record { read = read; untouched = untouched; reads = reads; within = within; prepared = prepared }

-- ---- the last part

-- the text of an answer that tells the report was written
pub told_by : {K : Type 0} {sink : SinkOf K} {old new : K} (t : Telling) (p : Program) (lists : CallerLists) (made : Made) (turns : MadeTurns) (answer : Answer) (ended : Ended) → made.turns ≡ turns
    → TellsReport t p lists made.report answer → IsEndOfWriting sink old new answer.status answer.report (journal_turns turns) (ticket_turns turns) answer.text ended
    → IsEndedRun sink old new (Tells t p lists made.report) made ended
told_by {sink = sink} {old = old} {new = new} t p lists made turns answer ended same is writes =
    told answer.text ended is.text (subst (λ (z : (Status × Option Report) × MadeTurns). IsEndOfWriting sink old new z.0.0 z.0.1 (journal_turns z.1) (ticket_turns z.1) answer.text ended) (λ i. ((is.done i, is.its_report i), sym same i)) writes)

pub untold_by : {K : Type 0} {sink : SinkOf K} {old new : K} (Text : List ℕ → Type 0) (made : Made) (ended : Ended)
    → new ≡ old → ended ≡ record { status = status.NoMemory; report = None; turns = None; tickets = None } → IsEndedRun sink old new Text made ended
untold_by {sink = sink} {old = old} {new = new} Text made ended same is = subst (IsEndedRun sink old new Text made) (sym is) (untold same)

-- ---- the whole call

-- a good report is one from the first world of its journal on
pub from_first : (run : Prepared) (report : Report) → Good (verdict_shown run.runner) run.world run.lists report → Good (verdict_shown run.runner) report.journal.first run.lists report
from_first run report good = subst (λ (start : Config). Good (verdict_shown run.runner) start run.lists report) (sym good.first) good

module _ {K : Type 0} (sink : SinkOf K) {Reads : Read → Type 0} (command : Option Command) (old mid new : K) (run : Prepared) (ready : IsReady command Reads (mid ≡ old) run)
    (made : Made) (is : IsMade run.maker run.runner run.world run.lists made) where
  finished_at : (ended : Ended) → IsEndedRun sink old new (Tells run.telling run.runner run.lists made.report) made ended
      → IsEnding command Reads (WroteAll sink old new) (WroteFront sink old new) (new ≡ old) ended.status ended.report
  finished_at _ (told text ended tells writes) = ending_of ready.read status.Done (Some made.report) (journal_turns made.turns) (ticket_turns made.turns) text ended ready.reads (ready.prepared.owed made.report text is.good is.reached tells) writes
  finished_at _ (untold same) = wanting ready.read ready.reads ready.within same

  -- how the call ends, where workers left a report
  pub finished : (ended : Ended) → IsEndedRun sink mid new (Tells run.telling run.runner run.lists made.report) made ended
      → IsEnding command Reads (WroteAll sink old new) (WroteFront sink old new) (new ≡ old) ended.status ended.report
  finished ended at_end = finished_at ended (subst (λ (k : K). IsEndedRun sink k new (Tells run.telling run.runner run.lists made.report) made ended) ready.untouched at_end)

  -- and which turns it has
  pub finished_turns : (ended : Ended) → IsEndedRun sink mid new (Tells run.telling run.runner run.lists made.report) made ended → HasItsTurns command ended
  finished_turns _ (told text ended tells writes) = turns_of command status.Done (Some made.report) (journal_turns made.turns) (ticket_turns made.turns) text ended (told_by_maker command run.maker made.report made.turns ready.prepared.its_maker is.told) writes
  finished_turns _ (untold same) = none_told command status.NoMemory None (λ done needs. cc)

-- how it ends, where workers were out of memory
pub unworked : {Reads : Read → Type 0} {Writes Cuts : List ℕ → Type 0} {Untouched : Type 0} (command : Option Command) (run : Prepared) (ended : Ended) → IsReady command Reads Untouched run
    → ended ≡ record { status = status.NoMemory; report = None; turns = None; tickets = None } → IsEnding command Reads Writes Cuts Untouched ended.status ended.report
unworked command run ended ready is = without ready.read ended is ready.reads ready.within ready.untouched
