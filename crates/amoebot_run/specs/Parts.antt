-- What the three parts of `run` promise one another. Private functions alone cite it.
use Rattle.std.specs.Prelude.{◌≡◌, ℕ, List}
use Rattle.std.specs.declared.option.Option.{Option}
use Rattle.std.specs.declared.option.Option.TheVariants.{Some, None}
use Rattle.outer_io.specs.declared.sink.Sink.{Ghosts as SinkOf}
use Rattle.amoebot_state.specs.Configs.{Config}
use Rattle.claim_core.specs.declared.report.Report.{Report}
use Rattle.claim_core.specs.Turns.{CallerLists, MarkLists}
use Rattle.claim_core.specs.Good.{Good}
use Rattle.claim_core.specs.Machine.{setup}
use Rattle.claim_rule.specs.declared.manner.ByJournal.{ByJournal}
use Rattle.claim_rule.specs.declared.manner.ByTicket.{ByTicket}
use Rattle.node_claims.specs.declared.turn.Turn.{Turn}
use Rattle.caller_workers.specs.Turns.{AreTurnsOf}
use Rattle.action_tree.specs.Trees.{Program}
use Rattle.action_meaning.specs.Verdicts.{verdict_shown}
use Rattle.commands.specs.declared.words.Command.{Command}
use Rattle.commands.specs.declared.prepared.Maker.{Maker}
use Rattle.commands.specs.declared.prepared.Maker.TheVariants as maker
use Rattle.commands.specs.declared.prepared.Prepared.{Prepared}
use Rattle.document_answers.specs.declared.status.Status.{Status}
use Rattle.document_answers.specs.declared.status.Status.TheVariants as status
use Rattle.commands.specs.Tasks.{IsPrepared, ReachedBy}
use Rattle.commands.specs.Reads.{Read}
use Rattle.amoebot_run.specs.declared.ended.Ended.{Ended}
use Rattle.amoebot_run.specs.declared.begin.Begun.{Begun}
use Rattle.amoebot_run.specs.declared.begin.Begun.TheVariants as begun
use Rattle.amoebot_run.specs.declared.turns.Made.{Made}
use Rattle.amoebot_run.specs.declared.turns.MadeTurns.{MadeTurns}
use Rattle.amoebot_run.specs.declared.turns.MadeTurns.TheVariants as turned
use Rattle.amoebot_run.specs.Clauses.{WroteAll, WroteFront}
use Rattle.amoebot_run.specs.Endings.{IsEnding, IsReadWithinLimit}
use Rattle.amoebot_run.specs.Working.{HasTickets, HasTurns}

-- ---- what is written

-- A text was written whole, and the call ends with this status,
-- this report and what became of the turns; or a write of it failed.
pub data IsEndOfWriting
    {K : Type 0} (sink : SinkOf K) (old new : K)
    (s : Status) (report : Option Report)
    (turns : Option (List (List (Turn ByJournal))))
    (tickets : Option (List (List (Turn ByTicket)))) (text : List ℕ)
    : Ended → Type 0 where
  all : WroteAll sink old new text
      → IsEndOfWriting sink old new s report turns tickets text
      (record { status = s; report = report; turns = turns; tickets = tickets })
  front : WroteFront sink old new text
      → IsEndOfWriting sink old new s report turns tickets text
      (record { status = status.WriteFault; report = None; turns = None; tickets = None })

-- ---- the first part

-- the call has ended in a way in which it may end, and has its turns; or nothing was written,
-- and workers are to run lists
pub data IsBegun
    (command : Option Command) (Reads : Read → Type 0) (Writes Cuts : List ℕ → Type 0) (Untouched : Type 0)
    : Begun → Type 0 where
  has_ended : (ended : Ended)
      → IsEnding command Reads Writes Cuts Untouched ended.status ended.report
      → HasTurns command ended.status ended.report ended.turns
      → HasTickets command ended.status ended.report ended.tickets
      → IsBegun command Reads Writes Cuts Untouched (begun.Ended ended)
  is_to_run : (run : Prepared) (read : Read) → Untouched → Reads read
      → IsReadWithinLimit read → IsPrepared command read run
      → IsBegun command Reads Writes Cuts Untouched (begun.Run run)

-- the call has ended, with such a status
abbrev pub HasEnded : Begun → (Status → Type 0) → Type 0
HasEnded (begun.Ended ended) Ends = Ends ended.status
HasEnded (begun.Run run) Ends = ⊥

-- ---- the middle part

-- what became of the turns, where each commit took the journal, and where each drew its place
abbrev pub journal_turns : MadeTurns → Option (List (List (Turn ByJournal)))
journal_turns (turned.Journal turns) = Some turns
journal_turns (turned.Tickets tickets) = None

abbrev pub ticket_turns : MadeTurns → Option (List (List (Turn ByTicket)))
ticket_turns (turned.Journal turns) = None
ticket_turns (turned.Tickets tickets) = Some tickets

-- it is that of the turns with these marks, by those who made them
abbrev pub HasTold : Maker → MarkLists → MadeTurns → Type 0
HasTold maker.Workers marks (turned.Journal turns) = AreTurnsOf marks turns
HasTold maker.Workers marks (turned.Tickets tickets) = ⊥
HasTold maker.Tickets marks (turned.Journal turns) = ⊥
HasTold maker.Tickets marks (turned.Tickets tickets) = AreTurnsOf marks tickets

-- the report is a good one of the lists' turns under the program, from the shape on,
-- and the steps of those who made them give it
pub record IsMade (m : Maker) (p : Program) (start : Config)
    (lists : CallerLists) (made : Made) : Type 0 where
  pub good : Good (verdict_shown p) start lists made.report
  pub reached : ReachedBy m (setup (verdict_shown p) start lists) made.report
  pub told : HasTold m made.report.turns made.turns

-- ---- the last part

-- A text that tells the report was written, or a write of it failed;
-- or it was out of memory and nothing was written.
pub data IsEndedRun {K : Type 0} (sink : SinkOf K) (old new : K)
    (Text : List ℕ → Type 0) (made : Made) : Ended → Type 0 where
  told : (text : List ℕ) (ended : Ended) → Text text
      → IsEndOfWriting sink old new status.Done (Some made.report)
      (journal_turns made.turns) (ticket_turns made.turns) text ended
      → IsEndedRun sink old new Text made ended
  untold : new ≡ old
      → IsEndedRun sink old new Text made
      (record { status = status.NoMemory; report = None; turns = None; tickets = None })
