-- Which calls have turns, and in which of the two places.
use Rattle.std.proofs.Common.{◌≡◌, ◌∙◌, inl, inr, ℕ, List, Option, Some, None, refl, sym, subst}
use Rattle.std.proofs.lemmas.Bool.{false≢true}
use Rattle.claim_core.specs.declared.report.Report.{Report}
use Rattle.outer_io.specs.declared.sink.Sink.{Ghosts as SinkOf}
use Rattle.claim_rule.specs.declared.manner.ByJournal.{ByJournal}
use Rattle.claim_rule.specs.declared.manner.ByTicket.{ByTicket}
use Rattle.node_claims.specs.declared.turn.Turn.{Turn}
use Rattle.shipped_programs.specs.declared.shipped.Shipped.{Shipped}
use Rattle.commands.specs.declared.words.Command.{Command}
use Rattle.commands.specs.declared.words.Command.TheVariants.{Show}
use Rattle.commands.specs.declared.prepared.Maker.{Maker}
use Rattle.commands.specs.declared.prepared.Maker.TheVariants as maker
use Rattle.document_answers.specs.declared.status.Status.{Status}
use Rattle.document_answers.specs.declared.status.Status.TheVariants as status
use Rattle.commands.specs.Tasks.{turn_maker}
use Rattle.commands.specs.Commands.{IsTicketed, IsWorked, NeedsWorkers, maker_of, no_maker, the_workers, the_tickets}
use Rattle.commands.proofs.TurnMakers.{nobody_works}
use Rattle.amoebot_run.specs.declared.ended.Ended.{Ended}
use Rattle.amoebot_run.specs.declared.turns.MadeTurns.{MadeTurns}
use Rattle.amoebot_run.specs.declared.turns.MadeTurns.TheVariants as turned
use Rattle.amoebot_run.specs.Parts.{HasTold, IsEndOfWriting, all, front, journal_turns, ticket_turns}
use Rattle.amoebot_run.specs.Working.{HasTickets, HasTurns}

-- what became of the turns comes where it has to
pub record HasBoth (c : Option Command) (s : Status) (report : Option Report) (turns : Option (List (List (Turn ByJournal)))) (tickets : Option (List (List (Turn ByTicket)))) : Type 0 where
  pub turns_there : HasTurns c s report turns
  pub tickets_there : HasTickets c s report tickets

-- what a call that has ended has of it
abbrev pub HasItsTurns : Option Command → Ended → Type 0
HasItsTurns c ended = HasBoth c ended.status ended.report ended.turns ended.tickets

-- ---- calls that have none

no_turns : (c : Option Command) (s : Status) (report : Option Report) → (s ≡ status.Done → IsWorked c → ⊥) → HasTurns c s report None
no_turns c s report never = record { exactly = ((λ some. absurd (false≢true some)), λ both. absurd (never both.0 both.1)); marked = tt }

no_tickets : (c : Option Command) (s : Status) (report : Option Report) → (s ≡ status.Done → IsTicketed c → ⊥) → HasTickets c s report None
no_tickets c s report never = record { exactly = ((λ some. absurd (false≢true some)), λ both. absurd (never both.0 both.1)); marked = tt }

-- a call that is not done, or whose command needs no workers, has none
pub none_told : (c : Option Command) (s : Status) (report : Option Report) → (s ≡ status.Done → NeedsWorkers c → ⊥) → HasBoth c s report None None
none_told c s report never = record {
  turns_there = no_turns c s report (λ done are. never done (inl are));
  tickets_there = no_tickets c s report (λ done are. never done (inr are));
}

-- so a call that shows a program has none
pub show_none : (program : Shipped) (s : Status) (report : Option Report) → HasBoth (Some (Show program)) s report None None
show_none program s report = none_told (Some (Show program)) s report (λ done needs. nobody_works no_maker refl needs)

-- ---- calls that have some

workers_or_tickets : the_workers ≡ the_tickets → ⊥
workers_or_tickets e = cc

-- what workers have made has them where it has to
pub told_by_maker : (c : Option Command) (m : Maker) (report : Report) (turns : MadeTurns) → maker_of c ≡ turn_maker m → HasTold m report.turns turns → HasBoth c status.Done (Some report) (journal_turns turns) (ticket_turns turns)
told_by_maker c maker.Workers report (turned.Journal turns) its marked = record {
  turns_there = record { exactly = ((λ some. (refl, its)), λ both. refl); marked = (report, refl, marked) };
  tickets_there = no_tickets c status.Done (Some report) (λ done are. workers_or_tickets (sym its ∙ are));
}
told_by_maker c maker.Tickets report (turned.Tickets tickets) its marked = record {
  turns_there = no_turns c status.Done (Some report) (λ done are. workers_or_tickets (sym are ∙ its));
  tickets_there = record { exactly = ((λ some. (refl, its)), λ both. refl); marked = (report, refl, marked) };
}
told_by_maker c maker.Workers report (turned.Tickets tickets) its marked = absurd marked
told_by_maker c maker.Tickets report (turned.Journal turns) its marked = absurd marked

-- a call has the turns of what it has written
pub turns_of : {K : Type 0} {sink : SinkOf K} {old new : K} (c : Option Command) (s : Status) (report : Option Report) (turns : Option (List (List (Turn ByJournal)))) (tickets : Option (List (List (Turn ByTicket)))) (text : List ℕ) (ended : Ended)
    → HasBoth c s report turns tickets → IsEndOfWriting sink old new s report turns tickets text ended → HasItsTurns c ended
turns_of c s report turns tickets text _ has (all writes) = has
turns_of c s report turns tickets text _ has (front writes) = none_told c status.WriteFault None (λ done needs. cc)

-- a call that was not done has none
pub line_turns : {K : Type 0} {sink : SinkOf K} {old new : K} (c : Option Command) (s : Status) (text : List ℕ) (ended : Ended)
    → (s ≡ status.Done → ⊥) → IsEndOfWriting sink old new s None None None text ended → HasItsTurns c ended
line_turns c s text ended not written = turns_of c s None None None text ended (none_told c s None (λ done needs. not done)) written

pub without_turns : (c : Option Command) (ended : Ended) → ended ≡ record { status = status.NoMemory; report = None; turns = None; tickets = None } → HasItsTurns c ended
without_turns c ended is = subst (HasItsTurns c) (sym is) (none_told c status.NoMemory None (λ done needs. cc))
