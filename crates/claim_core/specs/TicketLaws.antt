-- What follows of commits that wait for nobody, and of the merge.
use Rattle.std.specs.Prelude.{◌≡◌, ◌≢◌, ℕ, ◌*◌, ◌≤◌, List, [], ◌∷◌, nat_eq, slice_get}
use Rattle.std.specs.List.{count_by}
use Rattle.std.specs.declared.option.Option.TheVariants.{Some, None}
use Rattle.amoebot_state.specs.declared.verdict.Entry.{Entry}
use Rattle.claim_core.specs.declared.report.Report.{Report}
use Rattle.claim_core.specs.declared.state.Phase.{Phase}
use Rattle.claim_core.specs.declared.state.Phase.TheVariants.{Taking, Ended}
use Rattle.claim_core.specs.declared.state.Caller.{Caller}
use Rattle.claim_core.specs.Good.{Good}
use Rattle.claim_core.specs.Machine.{Setup, State, commits, next, after}
use Rattle.claim_core.specs.Soundness.{IsSetup, Sound, IsCommitting}
use Rattle.claim_core.specs.Reached.{Reached}
use Rattle.claim_core.specs.Tickets.{ticket_next, ticket_after, TicketReached, own_lists}
use Rattle.claim_core.specs.Merges.{own_of, AreLeft, IsMerge, IsNextEntry, small_lists, small_merge}

-- after any list of steps the state is sound
abbrev pub TicketsAreSound : Type 0
TicketsAreSound = (g : Setup) → IsSetup g → (steps : List ℕ) → Sound g (ticket_after g steps)

-- nobody holds the journal
pub record NobodyHolds (s : State) : Type 0 where
  pub holder : s.holder ≡ None
  pub callers : (c : ℕ) (k : Caller) → slice_get s.callers c ≡ Some k → IsCommitting k.phase → ⊥

abbrev pub TicketsHoldNoJournal : Type 0
TicketsHoldNoJournal = (g : Setup) → IsSetup g → (steps : List ℕ) → NobodyHolds (ticket_after g steps)

-- what the step of a caller in a phase is: its commit, which is two steps of the claims' machine;
-- else its one step there
abbrev pub IsTicketStep : Setup → ℕ → State → Caller → Phase → Type 0
IsTicketStep g c s k (Taking change) =
    (ticket_next g c s ≡ commits g c s k change) × (ticket_next g c s ≡ next g c (next g c s))
IsTicketStep g c s k phase = ticket_next g c s ≡ next g c s

-- while nobody holds the journal, each step is that
abbrev pub TicketStepsAreEvents : Type 0
TicketStepsAreEvents =
    (g : Setup) (c : ℕ) (s : State) (k : Caller) → s.holder ≡ None
    → slice_get s.callers c ≡ Some k → IsTicketStep g c s k k.phase

-- so each state is one to which steps of the claims' machine lead
abbrev pub TicketsAreClaims : Type 0
TicketsAreClaims = (g : Setup) (steps : List ℕ) → (more : List ℕ) × (ticket_after g steps ≡ after g more)

-- and each report is one that these steps give, and a good one
abbrev pub TicketReachedIsReached : Type 0
TicketReachedIsReached = (g : Setup) (report : Report) → TicketReached g report → Reached g report

abbrev pub TicketReachedIsGood : Type 0
TicketReachedIsGood = (g : Setup) → IsSetup g → (report : Report)
    → TicketReached g report → Good g.verdict g.world g.lists report

-- nobody waits: with 40 steps of its own for each turn a caller has ended,
-- whatever steps the others make between them
abbrev pub TicketsWaitForNobody : Type 0
TicketsWaitForNobody =
    (g : Setup)
    → IsSetup g
    → (steps : List ℕ) (c : ℕ) (k : Caller)
    → slice_get (ticket_after g steps).callers c ≡ Some k
    → 40 * g.lists.turns ≤ count_by (nat_eq c) steps
    → k.phase ≡ Ended

-- there is a report
abbrev pub TicketsLeaveAReport : Type 0
TicketsLeaveAReport = (g : Setup) → IsSetup g → (report : Report) × TicketReached g report

-- after any steps the journal is the merge of the callers' own lists
abbrev pub JournalIsMerge : Type 0
JournalIsMerge =
    (g : Setup) → IsSetup g → (steps : List ℕ) → IsMerge (own_lists g steps) (ticket_after g steps).journal

-- lists have at most one merge
abbrev pub MergeIsOne : Type 0
MergeIsOne = (lists : List (List (ℕ × Entry))) (place : ℕ) (es fs : List Entry)
    → AreLeft lists place es → AreLeft lists place fs → es ≡ fs

-- it is made entry by entry: each one is found by its place,
abbrev pub NextIsFirst : Type 0
NextIsFirst = (lists : List (List (ℕ × Entry))) (place : ℕ) (e : Entry) (es : List Entry)
    → AreLeft lists place (e ∷ es)
    → IsNextEntry lists place e es

-- and where no list begins with the place, no entry is left
abbrev pub NoPlaceNoEntry : Type 0
NoPlaceNoEntry = (lists : List (List (ℕ × Entry))) (place : ℕ) (es : List Entry)
    → AreLeft lists place es
    → ((c : ℕ) (p : ℕ × Entry) → slice_get (own_of lists c) 0 ≡ Some p → p.0 ≢ place)
    → es ≡ []

-- a merge of three lists
abbrev pub SmallMerge : Type 0
SmallMerge = IsMerge small_lists small_merge
