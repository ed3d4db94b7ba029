-- Commits that wait for nobody: the machine of the claim protocol with one other row.
-- A caller that has decided on a change draws its place and commits there in one step,
-- and nobody ever holds the journal: a caller in Taking commits next, and Committing never comes.
use Rattle.std.specs.Prelude.{ℕ, List, [], ◌∷◌, ◌++◌, map, length, nat_eq, if◌then◌else◌, slice_get}
use Rattle.std.specs.List.{range_with_len}
use Rattle.std.specs.declared.option.Option.{Option}
use Rattle.std.specs.declared.option.Option.TheVariants.{Some, None}
use Rattle.amoebot_state.specs.declared.verdict.Entry.{Entry}
use Rattle.claim_core.specs.declared.report.Report.{Report}
use Rattle.claim_core.specs.declared.state.Phase.{Phase}
use Rattle.claim_core.specs.declared.state.Phase.TheVariants.{Taking}
use Rattle.claim_core.specs.declared.state.Caller.{Caller}
use Rattle.claim_core.specs.Machine.{Setup, State, entry, commits, by_phase, opening}
use Rattle.claim_core.specs.Reached.{HaveEnded, IsReportOf}

module _ (g : Setup) where
  -- the step of a caller in each phase: a change is committed at once, and all else is as it was
  abbrev pub ticket_by_phase : ℕ → State → Caller → Phase → State
  ticket_by_phase c s k (Taking change) = commits g c s k change
  ticket_by_phase c s k phase = by_phase g c s k phase

  abbrev pub ticket_acts : ℕ → State → Option Caller → State
  ticket_acts c s None = s
  ticket_acts c s (Some k) = ticket_by_phase c s k k.phase

  -- one step of a caller
  abbrev pub ticket_next : ℕ → State → State
  ticket_next c s = ticket_acts c s (slice_get s.callers c)

  -- the state after steps of these callers, of which the last one stands first
  abbrev pub ticket_after : List ℕ → State
  ticket_after [] = opening g
  ticket_after (c ∷ steps) = ticket_next c (ticket_after steps)

  -- a report that some interleaving gives: steps of the callers, the last one first,
  -- lead from the opening to a state in which every caller has ended,
  -- and the report is that state's
  pub record TicketReached (report : Report) : Type 0 where
    pub steps : List ℕ
    pub ended : HaveEnded (ticket_after steps)
    pub left : IsReportOf g (ticket_after steps) report

  -- the entry that the next step of a caller commits, with the place that it draws:
  -- the journal's length
  abbrev pub ticket_of : ℕ → State → Caller → Phase → List (ℕ × Entry)
  ticket_of c s k (Taking change) = (length s.journal, entry g c k.turn change) ∷ []
  ticket_of c s k phase = []

  abbrev pub ticket_by : ℕ → State → Option Caller → List (ℕ × Entry)
  ticket_by c s None = []
  ticket_by c s (Some k) = ticket_of c s k k.phase

  -- beside the state: the caller's own list, with the entries that it committed in these steps,
  -- each with the place that it drew
  abbrev pub own_list : ℕ → List ℕ → List (ℕ × Entry)
  own_list c [] = []
  own_list c (d ∷ steps) =
      if nat_eq d c
      then own_list c steps ++ ticket_by c (ticket_after steps) (slice_get (ticket_after steps).callers c)
      else own_list c steps

  -- the own lists of all callers
  abbrev pub own_lists : List ℕ → List (List (ℕ × Entry))
  own_lists steps = map (λ c. own_list c steps) (range_with_len 0 (length g.lists.ids))
