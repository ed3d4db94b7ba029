-- Each step of a caller that draws tickets is one step of the claims' machine, or two of them: the journal is taken, and then the commit.
use Rattle.std.proofs.Common.{◌≡◌, ◌⊎◌, inl, inr, ℕ, List, [], ◌∷◌, ◌++◌, map, length, Bool, true, false, Option, Some, None, ap, sym, refl, subst, ◌∙◌}
use Rattle.std.specs.Prelude.{slice_get, slice_set, nat_eq, if◌then◌else◌}
use Rattle.std.proofs.lemmas.List.{set-set}
use Rattle.std.proofs.lemmas.Option.{none-some, slice_get_within}
use Rattle.amoebot_state.specs.declared.cell.CellName.{CellName}
use Rattle.amoebot_state.specs.declared.cell.Cell.{Cell}
use Rattle.amoebot_state.specs.declared.verdict.Change.{Change}
use Rattle.amoebot_state.specs.Pairs.{Pairs, plain_patch}
use Rattle.claim_core.specs.declared.marks.Mark.TheVariants as mark
use Rattle.claim_core.specs.declared.state.Phase.{Phase}
use Rattle.claim_core.specs.declared.state.Phase.TheVariants.{Claim, Refusing, Looking, Taking, Committing, Releasing, Ended}
use Rattle.claim_core.specs.declared.state.Caller.{Caller}
use Rattle.claim_core.specs.Cells.{number, at}
use Rattle.claim_core.specs.Machine.{Setup, State, bot, next_of, patched_pair, freeing_caller, with_caller, wins, claims, finds, tries, takes, commits, releases, by_phase, acts, next}
use Rattle.claim_core.specs.Soundness.{IsSetup, Sound}
use Rattle.claim_core.specs.Reached.{HaveEnded, IsReportOf}
use Rattle.claim_core.specs.Tickets.{ticket_by_phase, ticket_acts, ticket_next, ticket_after}
use Rattle.claim_core.specs.TicketLaws.{IsTicketStep, TicketsAreSound, TicketsHoldNoJournal, TicketStepsAreEvents, TicketsAreClaims, TicketReachedIsReached, TicketReachedIsGood}
use Rattle.claim_core.proofs.Places.{get-set_here}
use Rattle.claim_core.proofs.Sounds.{one_step, always}
use Rattle.claim_core.proofs.Ends.{reached_is_good}

module _ (g : Setup) where
  -- a claim and a release leave the holder
  claims_leaves : (c : ℕ) (s : State) (k : Caller) (n : CellName) (t : ℕ) → (claims g c s k n t).holder ≡ s.holder
  claims_leaves c s k n t = by (nat_eq t 0)
    where
      won : (o : Option Cell) → (wins g c s k n o).holder ≡ s.holder
      won None = refl
      won (Some x) = refl

      by : (b : Bool) → (if b then wins g c s k n (at s.values (number g.world.area n)) else with_caller g s c (record k { phase = Refusing n t })).holder ≡ s.holder
      by true = won (at s.values (number g.world.area n))
      by false = refl

  tries_leaves : (c : ℕ) (s : State) (k : Caller) (o : Option CellName) → (tries g c s k o).holder ≡ s.holder
  tries_leaves c s k None = refl
  tries_leaves c s k (Some n) = by (at s.tags (number g.world.area n))
    where
      by : (o : Option ℕ) → (finds g c s k n o).holder ≡ s.holder
      by None = refl
      by (Some t) = claims_leaves c s k n t

  releases_leaves : (c : ℕ) (s : State) (k : Caller) (held : Pairs) → (releases g c s k held).holder ≡ s.holder
  releases_leaves c s k [] = refl
  releases_leaves c s k (p ∷ held) = refl

  -- where nobody holds the journal, to take it and to commit is one commit
  both : (c : ℕ) (s : State) (k : Caller) (change : Change) → slice_get s.callers c ≡ Some k → k.phase ≡ Taking change → s.holder ≡ None → commits g c s k change ≡ next g c (next g c s)
  both c s k change there phase none = sym (ap (next g c) first ∙ second)
    where
      k' : Caller
      k' = record k { phase = Committing change }

      s' : State
      s' = record s { holder = Some c; callers = slice_set s.callers c k' }

      freed : Caller
      freed = freeing_caller g k.turn (map (patched_pair (plain_patch change.patch)) k.held) (k.marks ++ mark.Done (length s.journal) ∷ [])

      first : next g c s ≡ s'
      first = ap (acts g c s) there ∙ ap (by_phase g c s k) phase ∙ ap (takes g c s k change) none

      second : next g c s' ≡ commits g c s k change
      second =
          ap (acts g c s') (get-set_here s.callers c k' (slice_get_within s.callers c k there))
          ∙ (λ i. record { tags = s.tags; values = (commits g c s k change).values; journal = (commits g c s k change).journal; holder = None; callers = set-set s.callers c k' freed i })

  -- what a step is, and that it leaves no holder
  step_by : (c : ℕ) (s : State) (k : Caller) → s.holder ≡ None → slice_get s.callers c ≡ Some k → (p : Phase) → k.phase ≡ p → ((ticket_by_phase g c s k p).holder ≡ None) × IsTicketStep g c s k p
  step_by c s k none there = by
    where
      is : (p : Phase) → k.phase ≡ p → ticket_next g c s ≡ ticket_by_phase g c s k p
      is p e = ap (ticket_acts g c s) there ∙ ap (ticket_by_phase g c s k) e

      was : (p : Phase) → k.phase ≡ p → by_phase g c s k p ≡ next g c s
      was p e = sym (ap (acts g c s) there ∙ ap (by_phase g c s k) e)

      by : (p : Phase) → k.phase ≡ p → ((ticket_by_phase g c s k p).holder ≡ None) × IsTicketStep g c s k p
      by Claim e = (tries_leaves c s k (next_of g (bot g c k.turn) k.held) ∙ none, is Claim e ∙ was Claim e)
      by (Refusing n t) e = (none, is (Refusing n t) e ∙ was (Refusing n t) e)
      by (Looking l) e = (none, is (Looking l) e ∙ was (Looking l) e)
      by (Taking change) e = (refl, (is (Taking change) e, is (Taking change) e ∙ both c s k change there e none))
      by (Committing change) e = (refl, is (Committing change) e ∙ was (Committing change) e)
      by Releasing e = (releases_leaves c s k k.held ∙ none, is Releasing e ∙ was Releasing e)
      by Ended e = (none, is Ended e ∙ was Ended e)

  pub ticket_free : (c : ℕ) (s : State) → s.holder ≡ None → (ticket_next g c s).holder ≡ None
  ticket_free c s none = by (slice_get s.callers c) refl
    where
      by : (o : Option Caller) → slice_get s.callers c ≡ o → (ticket_acts g c s o).holder ≡ None
      by None e = none
      by (Some k) e = (step_by c s k none e k.phase refl).0

  -- so a step is one step of the claims' machine, or two
  pub one_or_two : (c : ℕ) (s : State) → s.holder ≡ None → (ticket_next g c s ≡ next g c s) ⊎ (ticket_next g c s ≡ next g c (next g c s))
  one_or_two c s none = by_caller (slice_get s.callers c) refl
    where
      by_kind : (k : Caller) (p : Phase) → IsTicketStep g c s k p → (ticket_next g c s ≡ next g c s) ⊎ (ticket_next g c s ≡ next g c (next g c s))
      by_kind k Claim is = inl is
      by_kind k (Refusing n t) is = inl is
      by_kind k (Looking l) is = inl is
      by_kind k (Taking change) is = inr is.1
      by_kind k (Committing change) is = inl is
      by_kind k Releasing is = inl is
      by_kind k Ended is = inl is

      by_caller : (o : Option Caller) → slice_get s.callers c ≡ o → (ticket_next g c s ≡ next g c s) ⊎ (ticket_next g c s ≡ next g c (next g c s))
      by_caller None e = inl (ap (ticket_acts g c s) e ∙ sym (ap (acts g c s) e))
      by_caller (Some k) e = by_kind k k.phase (step_by c s k none e k.phase refl).1

  pub ticket_sound : IsSetup g → (c : ℕ) (s : State) → s.holder ≡ None → Sound g s → Sound g (ticket_next g c s)
  ticket_sound ok c s none sound =
      let once = one_step g ok s sound c in
      elim (one_or_two c s none) [
        | inl one ↦ subst (Sound g) (sym one) once
        | inr two ↦ subst (Sound g) (sym two) (one_step g ok (next g c s) once c)
      ]

  -- after any steps
  pub tickets_free : (steps : List ℕ) → (ticket_after g steps).holder ≡ None
  tickets_free [] = refl
  tickets_free (c ∷ steps) = ticket_free c (ticket_after g steps) (tickets_free steps)

pub ticket_steps_are_events : TicketStepsAreEvents
ticket_steps_are_events g c s k none there = (step_by g c s k none there k.phase refl).1

pub tickets_are_claims : TicketsAreClaims
tickets_are_claims g [] = ([], refl)
tickets_are_claims g (c ∷ steps) =
    let was = tickets_are_claims g steps in
    elim (one_or_two g c (ticket_after g steps) (tickets_free g steps)) [
      | inl one ↦ (c ∷ was.0, one ∙ ap (next g c) was.1)
      | inr two ↦ (c ∷ c ∷ was.0, two ∙ ap (λ s. next g c (next g c s)) was.1)
    ]

pub tickets_are_sound : TicketsAreSound
tickets_are_sound g ok steps = let by = tickets_are_claims g steps in subst (Sound g) (sym by.1) (always g ok by.0)

pub tickets_hold_no_journal : TicketsHoldNoJournal
tickets_hold_no_journal g ok steps = record {
  holder = tickets_free g steps;
  callers = λ c k there committing. none-some c (sym (tickets_free g steps) ∙ ((tickets_are_sound g ok steps).each c k there).holder committing);
}

pub ticket_reached_is_reached : TicketReachedIsReached
ticket_reached_is_reached g report is =
    let by = tickets_are_claims g is.steps in
    record { steps = by.0; ended = subst HaveEnded by.1 is.ended; left = subst (λ s. IsReportOf g s report) by.1 is.left }

pub ticket_reached_is_good : TicketReachedIsGood
ticket_reached_is_good g ok report is = reached_is_good g ok report (ticket_reached_is_reached g report is)
