-- A caller's own list is what the journal has of the caller, so the journal is the merge of all own lists.
use Rattle.std.proofs.Common.{◌≡◌, ℕ, ◌+◌, ◌<◌, Bool, true, false, List, [], ◌∷◌, ◌++◌, map, length, Option, Some, None, inl, inr, ap, sym, refl, ◌∙◌, arith, nat_eq}
use Rattle.std.specs.Prelude.{slice_get, if◌then◌else◌}
use Rattle.std.proofs.lemmas.Bool.{cases_Bool, eqb-true}
use Rattle.std.proofs.lemmas.List.{append-nil}
use Rattle.std.proofs.lemmas.List.Elements.{All-weaker}
use Rattle.std.proofs.lemmas.List.FromFn.{get_or-map-range_with_len, length-map-range_with_len}
use Rattle.amoebot_state.specs.declared.verdict.Entry.{Entry}
use Rattle.claim_core.specs.declared.state.Phase.{Phase}
use Rattle.claim_core.specs.declared.state.Phase.TheVariants.{Claim, Refusing, Looking, Taking, Committing, Releasing, Ended}
use Rattle.claim_core.specs.declared.state.Caller.{Caller}
use Rattle.claim_core.specs.Good.{IsListed}
use Rattle.claim_core.specs.Machine.{Setup, State, entry}
use Rattle.claim_core.specs.Soundness.{IsSetup, IsCommitting}
use Rattle.claim_core.specs.Reached.{entries_of}
use Rattle.claim_core.specs.Tickets.{ticket_by_phase, ticket_acts, ticket_next, ticket_after, ticket_of, ticket_by, own_list, own_lists}
use Rattle.claim_core.specs.TicketLaws.{JournalIsMerge}
use Rattle.claim_core.proofs.Commitments.{journal-by_phase, entries_of-push}
use Rattle.claim_core.proofs.Unfolding.{tickets_are_sound, tickets_hold_no_journal}

-- a drawn entry without its place
abbrev entry_at : ℕ × Entry → Entry
entry_at p = p.1

module _ (g : Setup) where
  -- the journal grows by the entry that is drawn, if one is
  grows_by : (d : ℕ) (s : State) (k : Caller) (p : Phase) → (IsCommitting p → ⊥) → (ticket_by_phase g d s k p).journal ≡ s.journal ++ map entry_at (ticket_of g d s k p)
  grows_by d s k Claim not = journal-by_phase g d s k Claim
  grows_by d s k (Refusing n t) not = journal-by_phase g d s k (Refusing n t)
  grows_by d s k (Looking l) not = journal-by_phase g d s k (Looking l)
  grows_by d s k (Taking change) not = refl
  grows_by d s k (Committing change) not = absurd (not tt)
  grows_by d s k Releasing not = journal-by_phase g d s k Releasing
  grows_by d s k Ended not = journal-by_phase g d s k Ended

  pub ticket_grows : (d : ℕ) (s : State) → ((k : Caller) → slice_get s.callers d ≡ Some k → IsCommitting k.phase → ⊥) → (ticket_next g d s).journal ≡ s.journal ++ map entry_at (ticket_by g d s (slice_get s.callers d))
  ticket_grows d s not = by (slice_get s.callers d) refl
    where
      by : (o : Option Caller) → slice_get s.callers d ≡ o → (ticket_acts g d s o).journal ≡ s.journal ++ map entry_at (ticket_by g d s o)
      by None e = sym (append-nil s.journal)
      by (Some k) e = grows_by d s k k.phase (not k e)

  abbrev none : List (ℕ × Entry)
  none = []

  no_more : (b : Bool) → (if b then none else none) ≡ none
  no_more true = refl
  no_more false = refl

  -- a caller's own entries of the journal, once something was drawn
  own_by : (c d : ℕ) (s : State) (o : Option Caller) → entries_of c 0 (s.journal ++ map entry_at (ticket_by g d s o)) ≡ entries_of c 0 s.journal ++ (if nat_eq d c then ticket_by g d s o else [])
  own_by c d s = by
    where
      -- where nothing is drawn
      nothing : entries_of c 0 (s.journal ++ []) ≡ entries_of c 0 s.journal ++ (if nat_eq d c then [] else [])
      nothing = ap (entries_of c 0) (append-nil s.journal) ∙ sym (append-nil (entries_of c 0 s.journal)) ∙ ap (λ ps. entries_of c 0 s.journal ++ ps) (sym (no_more (nat_eq d c)))

      by_kind : (k : Caller) (p : Phase) → entries_of c 0 (s.journal ++ map entry_at (ticket_of g d s k p)) ≡ entries_of c 0 s.journal ++ (if nat_eq d c then ticket_of g d s k p else [])
      by_kind k Claim = nothing
      by_kind k (Refusing n t) = nothing
      by_kind k (Looking l) = nothing
      by_kind k (Taking change) =
          entries_of-push c 0 s.journal (entry g d k.turn change)
          ∙ ap (λ n. entries_of c 0 s.journal ++ (if nat_eq d c then (n, entry g d k.turn change) ∷ [] else [])) (let z : 0 + length s.journal ≡ length s.journal = omega arith in z)
      by_kind k (Committing change) = nothing
      by_kind k Releasing = nothing
      by_kind k Ended = nothing

      by : (o : Option Caller) → entries_of c 0 (s.journal ++ map entry_at (ticket_by g d s o)) ≡ entries_of c 0 s.journal ++ (if nat_eq d c then ticket_by g d s o else [])
      by None = nothing
      by (Some k) = by_kind k k.phase

  pub own_list_is : IsSetup g → (c : ℕ) (steps : List ℕ) → own_list g c steps ≡ entries_of c 0 (ticket_after g steps).journal
  own_list_is ok c [] = refl
  own_list_is ok c (d ∷ steps) =
      let s = ticket_after g steps in
      let ih = own_list_is ok c steps in
      let grown = ap (entries_of c 0) (ticket_grows d s ((tickets_hold_no_journal g ok steps).callers d)) ∙ own_by c d s (slice_get s.callers d) in
      elim (cases_Bool (nat_eq d c)) [
        | inl t ↦
            let same = eqb-true d c t in
            rw t (ap (λ ps. ps ++ ticket_by g c s (slice_get s.callers c)) ih
            ∙ sym (grown ∙ ap (λ b. entries_of c 0 s.journal ++ (if b then ticket_by g d s (slice_get s.callers d) else [])) t ∙ ap (λ e. entries_of c 0 s.journal ++ ticket_by g e s (slice_get s.callers e)) same))
        | inr f ↦
            rw f (ih ∙ sym (grown ∙ ap (λ b. entries_of c 0 s.journal ++ (if b then ticket_by g d s (slice_get s.callers d) else [])) f ∙ append-nil (entries_of c 0 s.journal)))
      ]

pub journal_is_merge : JournalIsMerge
journal_is_merge g ok steps =
    let n = length g.lists.ids in
    let as_many : length (own_lists g steps) ≡ n = length-map-range_with_len (λ c. own_list g c steps) 0 n in
    record {
      own = λ c lt. get_or-map-range_with_len (λ d. own_list g d steps) 0 n c c [] (omega (arith, lt, as_many)) (omega arith) ∙ own_list_is g ok c steps;
      listed = All-weaker (IsListed g.lists) (λ (e : Entry). e.caller < length (own_lists g steps)) (λ e is. let lt = is.caller in omega (arith, lt, as_many)) (ticket_after g steps).journal (tickets_are_sound g ok steps).order.listed;
    }
