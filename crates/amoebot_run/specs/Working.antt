-- What workers leave of a run, and which calls give it.
use Rattle.std.specs.Prelude.{◌≡◌, ◌↔◌, List, IsSome, IfSome}
use Rattle.std.specs.declared.option.Option.{Option}
use Rattle.std.specs.declared.option.Option.TheVariants.{Some}
use Rattle.claim_core.specs.declared.report.Report.{Report}
use Rattle.claim_rule.specs.declared.manner.ByJournal.{ByJournal}
use Rattle.claim_rule.specs.declared.manner.ByTicket.{ByTicket}
use Rattle.node_claims.specs.declared.turn.Turn.{Turn}
use Rattle.caller_workers.specs.Turns.{AreTurnsOf}
use Rattle.commands.specs.declared.words.Command.{Command}
use Rattle.commands.specs.Commands.{IsTicketed, IsWorked}
use Rattle.document_answers.specs.declared.status.Status.{Status}
use Rattle.document_answers.specs.declared.status.Status.TheVariants as status

-- there is a report, and these are what became of its turns
abbrev pub AreOfReport : {W : Type 0} → Option Report → List (List (Turn W)) → Type 0
AreOfReport report turns = (told : Report) × (report ≡ Some told) × AreTurnsOf told.turns turns

-- what became of the turns comes exactly where workers made them and the command is done;
-- then it is that of the report's turns
pub record HasTurns (c : Option Command) (s : Status) (report : Option Report)
    (turns : Option (List (List (Turn ByJournal)))) : Type 0 where
  pub exactly : IsSome turns ↔ ((s ≡ status.Done) × IsWorked c)
  pub marked : IfSome turns (AreOfReport report)

-- the same where workers made them whose commits drew their places
pub record HasTickets (c : Option Command) (s : Status) (report : Option Report)
    (tickets : Option (List (List (Turn ByTicket)))) : Type 0 where
  pub exactly : IsSome tickets ↔ ((s ≡ status.Done) × IsTicketed c)
  pub marked : IfSome tickets (AreOfReport report)
