-- The records of all callers while they are dealt.
use Rattle.std.proofs.Common.{◌≡◌, ℕ, suc, ◌+◌, ◌<◌, ◌≤◌, List, [], ◌∷◌, ◌++◌, map, take, drop, length, Option, Some, ap, sym, refl, subst, ◌∙◌, arith}
use Rattle.std.specs.Prelude.{slice_get, IsSome}
use Rattle.std.specs.List.{All}
use Rattle.std.proofs.lemmas.List.Elements.{All-map}
use Rattle.std.proofs.lemmas.Option.{same_Some, slice_get_within, get_or_from_slice_get}
use Rattle.std.proofs.lemmas.List.{length-map, take_more, take_all, drop_more, drop_all}
use Rattle.tri_lattice.specs.Extent.{Extent}
use Rattle.amoebot_state.specs.declared.verdict.Verdict.{Verdict}
use Rattle.amoebot_state.specs.Zones.{Shown}
use Rattle.claim_core.specs.Machine.{fresh}
use Rattle.claim_core.specs.Soundness.{IsSetup}
use Rattle.claim_core.proofs.Places.{map-get}
use Rattle.atomic_table.specs.Seated.{TableId}
use Rattle.claim_core.specs.declared.state.Caller.{Caller}
use Rattle.claim_rule.specs.declared.views.Record.{Record}
use Rattle.claim_rule.specs.declared.views.Terms.{Terms}
use Rattle.claim_rule.specs.Views.{Seated, record_of, setup_of_terms, view_of}
use Rattle.claim_rule.specs.Tokens.{FieldOf, Token, IsSeat, frame_of}
use Rattle.claim_rule.specs.Seating.{SeatsOf, AreSeats}
use Rattle.claim_rule.specs.Internal.{dealt, left_view}
use Rattle.claim_rule.specs.Opened.{first_records, seat_with, first_seats}
use Rattle.claim_rule.proofs.Opens.{from, there, fresh_there}

module _ {D : Type 0} (verdict : D → Shown → Verdict) (z : Terms D) where
  abbrev all : List Record
  all = first_records verdict z

  abbrev pub next_one : ℕ → Record
  next_one c = record_of c (fresh (setup_of_terms verdict z))

  next_there : (c : ℕ) → c < length z.lists.ids → slice_get all c ≡ Some (next_one c)
  next_there c lt = there verdict z 0 c (map (λ (_ : List ℕ). fresh (setup_of_terms verdict z)) z.lists.ids) (fresh (setup_of_terms verdict z)) (fresh_there verdict z z.lists.ids c lt) ∙ ap (λ n. Some (next_one n)) (let n : 0 + c ≡ c = omega arith in n)

  -- what the first seat has before and after a record is dealt
  pub first_of_rest : (m : Seated D) (c : ℕ) → c < length z.lists.ids → m ≡ (view_of z (drop c all), []) → m.0 ≡ view_of z (next_one c ∷ drop (c + 1) all)
  first_of_rest m c lt e =
      let r = next_one c in
      let at = next_there c lt in
      ap (λ (n : Seated D). n.0) e ∙ ap (view_of z) (drop_more all c r (slice_get_within all c r at) ∙ ap (λ q. q ∷ drop (c + 1) all) (get_or_from_slice_get all c r r at))

  pub one_dealt : (m : Seated D) (c : ℕ) → c < length z.lists.ids → m ≡ (view_of z (drop c all), []) → dealt m.0 ≡ view_of z (next_one c ∷ [])
  one_dealt m c lt e = ap dealt (first_of_rest m c lt e)

  pub others_left : (m : Seated D) (c : ℕ) → c < length z.lists.ids → m ≡ (view_of z (drop c all), []) → ◌≡◌ {A = Seated D} (left_view m.0, m.1) (view_of z (drop (c + 1) all), [])
  others_left m c lt e = λ i. (left_view (first_of_rest m c lt e i), (e i).1)

  pub one_more : (c : ℕ) → c < length z.lists.ids → take (c + 1) all ≡ take c all ++ next_one c ∷ []
  one_more c lt =
      let r = next_one c in
      let at = next_there c lt in
      take_more all c r (slice_get_within all c r at) ∙ ap (λ q. take c all ++ q ∷ []) (get_or_from_slice_get all c r r at)

  -- a seat with the record of a caller before its first turn keeps what a seat keeps
  pub is_seat : (m : Seated D) (c : ℕ) (a : Extent) (greatest : List ℕ) → IsSetup (setup_of_terms verdict z) → c < length z.lists.ids → a ≡ z.world.area → greatest ≡ z.world.maxes → m ≡ (view_of z (next_one c ∷ []), []) → IsSeat verdict m c 0 (frame_of a greatest)
  is_seat m c a greatest ok lt area maxes is = subst (λ (n : Seated D). IsSeat verdict n c 0 (frame_of a greatest)) (sym is) (record {
    alone = refl;
    run = ok;
    number = refl;
    listed = lt;
    counted = refl;
    rests = refl;
    taken = refl;
    won = refl;
    note = refl;
    out = refl;
    world = λ i. frame_of (area i) (maxes i);
  })

module _ {D : Type 0} (verdict : D → Shown → Verdict) (f : FieldOf D) where
  abbrev z : Terms D
  z = f.terms

  abbrev its : List Record
  its = first_records verdict z

  abbrev its_seats : List Record → List (Option (Token D))
  its_seats rs = map (λ r. Some (seat_with f r)) rs

  map_last : (rs : List Record) (r : Record) → its_seats (rs ++ r ∷ []) ≡ its_seats rs ++ Some (seat_with f r) ∷ []
  map_last [] r = refl
  map_last (q ∷ rs) r = ap (λ (ts : List (Option (Token D))). Some (seat_with f q) ∷ ts) (map_last rs r)

  -- one seat more
  pub dealt_so_far : (seats : List (Option (Token D))) (c : ℕ) (t : Token D) → c < length z.lists.ids → seats ≡ its_seats (take c its) → t ≡ seat_with f (next_one verdict z c) → seats ++ Some t ∷ [] ≡ its_seats (take (c + 1) its)
  dealt_so_far seats c t lt so_far is = (λ i. so_far i ++ Some (is i) ∷ []) ∙ sym (map_last (take c its) (next_one verdict z c)) ∙ ap its_seats (sym (one_more verdict z c lt))

  length_from : (b : ℕ) (ks : List Caller) → length (Rattle.claim_rule.specs.Stands.records_from verdict z b ks) ≡ length ks
  length_from b [] = refl
  length_from b (k ∷ ks) = ap suc (length_from (b + 1) ks)

  its_length : length its ≡ length z.lists.ids
  its_length = length_from 0 (map (λ (_ : List ℕ). fresh (setup_of_terms verdict z)) z.lists.ids) ∙ length-map z.lists.ids (λ (_ : List ℕ). fresh (setup_of_terms verdict z))

  module _ (m : Seated D) (table : TableId) (seats : List (Option (Token D))) (c : ℕ) (all_done : c ≡ length z.lists.ids) (same : table ≡ f.table) (rest : m ≡ (view_of z (drop c its), [])) (are : seats ≡ its_seats (take c its)) where
    whole : length its ≤ c
    whole = omega (arith, its_length, all_done)

    are_all : seats ≡ its_seats its
    are_all = are ∙ ap its_seats (take_all c its whole)

    each : (d : ℕ) (t : Token D) → slice_get (its_seats its) d ≡ Some (Some t) → (t.table ≡ table) × (t.view.terms ≡ Some z) × ((Rattle.claim_rule.specs.Tokens.number_in t) ≡ d)
    each d t e =
        let one = map-get (λ r. Some (seat_with f r)) its d (Some t) e in
        let is = same_Some (seat_with f one.0) t one.2 in
        let number = (from verdict z 0 d (map (λ (_ : List ℕ). fresh (setup_of_terms verdict z)) z.lists.ids) one.0 one.1).0 in
        subst (λ (u : Token D). (u.table ≡ table) × (u.view.terms ≡ Some z) × (Rattle.claim_rule.specs.Tokens.number_in u ≡ d)) is (sym same, refl, omega (arith, number))

    -- once all are dealt, the seats keep what they keep
    pub are_seats : AreSeats m table seats
    are_seats = record {
      terms = z;
      dealt = rest ∙ ap (λ (rs : List Record). (view_of z rs, [])) (drop_all c its whole);
      count = ap (λ (ts : List (Option (Token D))). length ts) are_all ∙ length-map its (λ r. Some (seat_with f r)) ∙ its_length;
      each = λ d t e. each d t (subst (λ (ts : List (Option (Token D))). slice_get ts d ≡ Some (Some t)) are_all e);
    }

    abbrev the_seats : SeatsOf D
    the_seats = record { table = table; terms = m.0.terms; seats = seats }

    pub are_first : the_seats ≡ first_seats verdict f
    are_first = λ i. record { table = same i; terms = (rest i).0.terms; seats = are_all i }

  -- all are there
  pub first_are_there : All (λ (o : Option (Token D)). IsSome o) (first_seats verdict f).seats
  first_are_there = All-map (λ (o : Option (Token D)). IsSome o) (λ r. Some (seat_with f r)) its (λ k d lt. refl)
