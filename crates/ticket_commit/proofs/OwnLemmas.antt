-- The own list beside a seat: there is one at most; it is empty before the first turn; it goes out and comes back with its seat.
use Rattle.std.proofs.Common.{◌≡◌, ℕ, ◌-◌, ◌<◌, ◌≤◌, List, [], map, length, set, get_or, Some, None, inl, inr, ap, sym, refl, subst, ◌∙◌, arith, length-set}
use Rattle.std.specs.Prelude.{slice_get}
use Rattle.std.specs.List.{All}
use Rattle.std.proofs.lemmas.Option.{none-some, same_Some, slice_get_within, slice_get_read, get_or_from_slice_get}
use Rattle.amoebot_state.specs.declared.verdict.Entry.{Entry}
use Rattle.amoebot_state.specs.declared.verdict.Verdict.{Verdict}
use Rattle.amoebot_state.specs.Zones.{Shown}
use Rattle.claim_core.specs.declared.state.Caller.{Caller}
use Rattle.claim_core.specs.Machine.{fresh}
use Rattle.claim_core.specs.Reached.{placed}
use Rattle.claim_core.proofs.Places.{map-get, get-set_here, get-set_else, get-set_cases}
use Rattle.claim_rule.specs.declared.views.Terms.{Terms}
use Rattle.claim_rule.specs.Views.{setup_of_terms}
use Rattle.claim_rule.specs.Tokens.{FieldOf, Token}
use Rattle.claim_rule.specs.Seating.{SeatsOf}
use Rattle.claim_rule.specs.Opened.{first_records, first_seats, seat_with}
use Rattle.claim_rule.proofs.Opens.{from}
use Rattle.caller_workers.proofs.MadeTurns.{seats_count}
use Rattle.ticket_commit.specs.OwnLists.{OwnEntries}
use Rattle.ticket_commit.specs.Own.{KeepsOwn, AreOwnLists}
use Rattle.ticket_commit.specs.Laws.{OwnListIsOne, SmallOwn}

module _ {D : Type 0} (verdict : D → Shown → Verdict) where
  pub own_list_is_one : OwnListIsOne verdict
  own_list_is_one t one two room other first second = first.entries ∙ sym second.entries

  pub small_own_is : SmallOwn verdict
  small_own_is f first second three = record {
    entries = refl;
    counted = refl;
    room = (let le : f.terms.lists.turns - 2 ≤ 1 = omega (arith, three) in le);
  }

  -- before the first turn
  pub own_at_first : (f : FieldOf D) (c : ℕ) (t : Token D) → slice_get (first_seats verdict f).seats c ≡ Some (Some t) → (own : List (ℕ × Entry)) (spare : ℕ) → own ≡ [] → f.terms.lists.turns ≤ spare → KeepsOwn verdict t own spare
  own_at_first f c t at own spare none room =
      let z : Terms D = f.terms in
      let m = map-get (λ r. Some (seat_with f r)) (first_records verdict z) c (Some t) at in
      let is = from verdict z 0 c (map (λ (_ : List ℕ). fresh (setup_of_terms verdict z)) z.lists.ids) m.0 m.1 in
      let begun = (map-get (λ (_ : List ℕ). fresh (setup_of_terms verdict z)) z.lists.ids c m.0.caller is.1).2 in
      let no_marks : length m.0.caller.marks ≡ 0 = sym (ap (λ (k : Caller). length k.marks) begun) in
      let no_turn : m.0.caller.turn ≡ 0 = sym (ap (λ (k : Caller). k.turn) begun) in
      subst (λ (u : Token D). KeepsOwn verdict u own spare) (same_Some (seat_with f m.0) t m.2) (record {
        entries = none ∙ sym (ap (map placed) is.2);
        counted = no_marks ∙ sym no_turn;
        room = (let le : z.lists.turns - length m.0.caller.marks ≤ spare = omega (arith, no_marks, room) in le);
      })

  module _ (seats : SeatsOf D) (lists : List OwnEntries) (are : AreOwnLists verdict seats lists) where
    -- where a seat is, there is a list,
    pub list_there : (c : ℕ) (t : Token D) → slice_get seats.seats c ≡ Some (Some t) → c < length lists
    list_there c t at = let lt = slice_get_within seats.seats c (Some t) at in let same = are.count in omega (arith, lt, same)

    -- which is its own
    pub its_list : (c : ℕ) (t : Token D) → slice_get seats.seats c ≡ Some (Some t) → (own : OwnEntries) → own ≡ get_or lists c own → KeepsOwn verdict t own.entries own.room
    its_list c t at own is = are.each c t own at (slice_get_read lists (length lists) c own refl (list_there c t at) is)

    -- it goes out with its seat,
    pub list_goes : (new : SeatsOf D) (c : ℕ) (none : OwnEntries) → new ≡ record seats { seats = set seats.seats c None } → AreOwnLists verdict new (set lists c none)
    list_goes new c none is = subst (λ (s : SeatsOf D). AreOwnLists verdict s (set lists c none)) (sym is) (record {
      count = length-set lists c none ∙ are.count ∙ sym (length-set seats.seats c None);
      listed = λ z terms. length-set seats.seats c None ∙ are.listed z terms;
      each = λ d t own e at. elim (get-set_cases seats.seats c d None (Some t) e) [
        | inl here ↦ absurd (none-some t here.1)
        | inr else ↦ are.each d t own else.1 (sym (get-set_else lists c d none else.0) ∙ at)
      ];
    })

    -- and comes back with it
    pub list_comes : (new : SeatsOf D) (c : ℕ) (t : Token D) (own : OwnEntries) → KeepsOwn verdict t own.entries own.room → new ≡ record seats { seats = set seats.seats c (Some t) } → AreOwnLists verdict new (set lists c own)
    list_comes new c t own keeps is = subst (λ (s : SeatsOf D). AreOwnLists verdict s (set lists c own)) (sym is) (record {
      count = length-set lists c own ∙ are.count ∙ sym (length-set seats.seats c (Some t));
      listed = λ z terms. length-set seats.seats c (Some t) ∙ are.listed z terms;
      each = λ d u other e at. elim (get-set_cases seats.seats c d (Some t) (Some u) e) [
        | inl here ↦
            let within = slice_get_within (set seats.seats c (Some t)) d (Some u) e in
            let as_many = are.count in
            let inside : c < length lists = omega (arith, within, length-set seats.seats c (Some t), as_many, here.0) in
            let mine = same_Some own other (sym (get-set_here lists c own inside) ∙ ap (slice_get (set lists c own)) (sym here.0) ∙ at) in
            subst (λ (p : Token D × OwnEntries). KeepsOwn verdict p.0 p.1.entries p.1.room) (λ i. (same_Some t u here.1 i, mine i)) keeps
        | inr else ↦ are.each d u other else.1 (sym (get-set_else lists c d own else.0) ∙ at)
      ];
    })

  -- before the first turn all lists are empty
  pub first_own_lists : (f : FieldOf D) (seats : SeatsOf D) → seats ≡ first_seats verdict f → (lists : List OwnEntries) (turns : ℕ) → length lists ≡ length f.terms.lists.ids → turns ≡ f.terms.lists.turns
      → All (λ own. (own.entries ≡ []) × (turns ≤ own.room)) lists → AreOwnLists verdict seats lists
  first_own_lists f seats is lists turns count same empty = subst (λ (s : SeatsOf D). AreOwnLists verdict s lists) (sym is) (record {
    count = count ∙ sym (seats_count verdict f);
    listed = λ z terms. seats_count verdict f ∙ ap (λ (y : Terms D). length y.lists.ids) (same_Some f.terms z terms);
    each = λ c t own e at.
        let has = subst (λ (v : OwnEntries). (v.entries ≡ []) × (turns ≤ v.room)) (get_or_from_slice_get lists c own own at) (empty c own (slice_get_within lists c own at)) in
        own_at_first f c t e own.entries own.room has.0 (let room = has.1 in omega (arith, room, same));
  })
