-- How a field ends on which commits draw their places: the merge of the own lists is the journal of the state that the callers have come to.
use Rattle.std.proofs.Common.{◌≡◌, ℕ, zero, suc, ◌<◌, ◌≤◌, List, [], ◌∷◌, map, length, Some, ap, sym, refl, subst, ◌∙◌, arith}
use Rattle.std.specs.Prelude.{slice_get, IsSome}
use Rattle.std.specs.List.{All}
use Rattle.std.proofs.lemmas.List.{length-map}
use Rattle.std.proofs.lemmas.Option.{get_or_from_slice_get}
use Rattle.amoebot_state.specs.declared.verdict.Entry.{Entry}
use Rattle.amoebot_state.specs.declared.verdict.Verdict.{Verdict}
use Rattle.amoebot_state.specs.Configs.{Config}
use Rattle.amoebot_state.specs.Steps.{Run}
use Rattle.amoebot_state.specs.Zones.{Shown}
use Rattle.amoebot_state.proofs.Patched.{run_has_one_last}
use Rattle.claim_core.specs.Turns.{Kept}
use Rattle.claim_core.specs.Machine.{Setup, State}
use Rattle.claim_core.specs.Merges.{own_of, IsMerge}
use Rattle.claim_core.specs.Reached.{HasValues, entries_of, placed}
use Rattle.claim_core.specs.SerialRuns.{all_turns}
use Rattle.claim_core.specs.Soundness.{IsSetup, Sound}
use Rattle.claim_core.specs.Tickets.{ticket_after}
use Rattle.claim_core.proofs.HolderLemmas.{framed}
use Rattle.claim_core.proofs.Places.{get-map}
use Rattle.claim_core.proofs.Unfolding.{tickets_are_sound}
use Rattle.claim_rule.specs.declared.views.Terms.{Terms}
use Rattle.claim_rule.specs.Views.{setup_of_terms}
use Rattle.claim_rule.specs.Manners.{by_ticket}
use Rattle.claim_rule.specs.Seating.{SeatsOf}
use Rattle.claim_rule.specs.Tokens.{Token, record_in}
use Rattle.claim_rule.specs.Closing.{ClosesAs, LeavesAs}
use Rattle.claim_rule.proofs.Closes.{some_there}
use Rattle.ticket_commit.specs.OwnLists.{OwnEntries, entry_lists, HasMerge}
use Rattle.ticket_commit.specs.Own.{AreOwnLists, own_at_seat}
use Rattle.ticket_commit.proofs.OwnMerges.{own_lists_are, own_lists_merge}

abbrev entries : OwnEntries → List (ℕ × Entry)
entries own = own.entries

-- what stands at a place
at_place : {A : Type 0} (xs : List A) (c : ℕ) → c < length xs → (x : A) × (slice_get xs c ≡ Some x)
at_place [] c lt = absurd (omega (arith, lt))
at_place (x ∷ xs) zero lt = (x, refl)
at_place (x ∷ xs) (suc c) lt = at_place xs c (omega (arith, lt))

module _ {D : Type 0} (verdict : D → Shown → Verdict) (z : Terms D) (ok : IsSetup (setup_of_terms verdict z)) (seats : SeatsOf D) (its : seats.terms ≡ Some z) (all : All (λ seat. IsSome seat) seats.seats)
    (leaves : LeavesAs by_ticket verdict z seats.seats) (lists : List OwnEntries) (are : AreOwnLists verdict seats lists) where
  abbrev g : Setup
  g = setup_of_terms verdict z

  abbrev core : State
  core = ticket_after g leaves.steps

  sound : Sound g core
  sound = tickets_are_sound g ok leaves.steps

  pub count : length seats.seats ≡ length z.lists.ids
  count = are.listed z its

  -- at each place there is a seat, which has the entries of its caller
  seat_at : (c : ℕ) → c < length seats.seats → (t : Token D) × (slice_get seats.seats c ≡ Some (Some t)) × (map placed (record_in t).committed ≡ entries_of c 0 core.journal)
  seat_at c lt =
      let there = some_there seats.seats c lt all in
      let its = leaves.callers c there.0 there.1 in
      (there.0, there.1, its.1.committed.entries ∙ ap (λ n. entries_of n 0 core.journal) its.0)

  as_many : length (entry_lists lists) ≡ length z.lists.ids
  as_many = length-map lists entries ∙ are.count ∙ count

  -- the own list of each caller has its entries of the journal
  own : (c : ℕ) → c < length (entry_lists lists) → own_of (entry_lists lists) c ≡ entries_of c 0 core.journal
  own c lt =
      let inside : c < length lists = (let n = length-map lists entries in omega (arith, lt, n)) in
      let seat = seat_at c (let n = are.count in omega (arith, inside, n)) in
      let list = at_place lists c inside in
      get_or_from_slice_get (entry_lists lists) c list.0.entries [] (get-map entries lists c list.0 list.1) ∙ (are.each c seat.0 list.0 seat.1 list.1).entries ∙ seat.2

  pub has_merge : (spare : ℕ) → all_turns z.lists ≤ spare → HasMerge g.verdict g.world (entry_lists lists) spare
  has_merge spare room = own_lists_merge g core sound (entry_lists lists) as_many own ok spare room

  -- the merge of the lists is the journal,
  pub merge_is : IsMerge (entry_lists lists) core.journal
  merge_is = own_lists_are g core sound (entry_lists lists) as_many own

  -- and the merge of what the seats know is
  pub merge_at_seats : IsMerge (map own_at_seat seats.seats) core.journal
  merge_at_seats =
      let n = length-map seats.seats (own_at_seat {D = D}) in
      own_lists_are g core sound (map own_at_seat seats.seats) (n ∙ count) (λ c lt.
      let seat = seat_at c (omega (arith, lt, n)) in
      get_or_from_slice_get (map own_at_seat seats.seats) c (map placed (record_in seat.0).committed) [] (get-map own_at_seat seats.seats c (Some seat.0) seat.1) ∙ seat.2)

  -- with this journal and the last world of its run the field has ended as it does
  pub closes : (journal : Kept) → journal.first ≡ z.world → journal.entries ≡ core.journal → (world : Config) → Run g.verdict g.world core.journal world → ClosesAs by_ticket verdict z seats.seats world journal
  closes journal first entries world run =
      let same : sound.last ≡ world = run_has_one_last g.verdict g.world core.journal sound.last world sound.run run in
      let fr = framed g ok core sound in
      let last_has : HasValues g core sound.last = record { same = fr.same; values = sym sound.values } in
      record { steps = leaves.steps; callers = leaves.callers; first = first; entries = entries; values = subst (HasValues g core) same last_has }
