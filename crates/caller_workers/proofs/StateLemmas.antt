-- WorkerStates that are made and cleared one after another.
use Rattle.std.proofs.Common.{◌≡◌, ℕ, ◌<◌, ◌≤◌, List, [], ◌∷◌, ◌++◌, map, length, set, reverse, get_or, length-append, ◌↔◌, IfSome, IsSome, Vec, Global, Option, Some, None, ap, sym, refl, ◌∙◌, subst, arith}
use Rattle.std.specs.Prelude.{slice_get}
use Rattle.std.specs.List.{All}
use Rattle.std.proofs.lemmas.List.{append-nil, append_assoc, length-map, reverse-append, reverse-reverse, map-append, nil_from_length}
use Rattle.std.proofs.lemmas.List.Elements.{All-push}
use Rattle.std.proofs.lemmas.Option.{none-some, same_Some, get_or_from_slice_get}
use mathlib.Core.List.{map-map}
use Rattle.amoebot_state.proofs.Options.{not_none}
use Rattle.claim_core.proofs.Places.{get-append_right}
use Rattle.claim_core.proofs.MachineLemmas.{reverse-map}
use Rattle.claim_rule.specs.Tokens.{Token, number_in}
use Rattle.claim_rule.specs.Seating.{SeatsOf, IsFirst}
use Rattle.node_claims.specs.declared.turn.Turn.{Turn}
use Rattle.caller_workers.specs.declared.workers.WorkerState.{WorkerState}
use Rattle.caller_workers.specs.Turns.{lists_told}
use Rattle.caller_workers.specs.WorkerStates.{IsClear, AreClear, AreTaken, token_there, seat_at, turns_at}
use Rattle.caller_workers.proofs.TakenSeats.{out_before, last_is_out, one_given, next_is_taken}

module _ {D S : Type 0} (token : S → Token D) where
  -- there is a token exactly where there is a seat
  none_there : (P : Type 0) (seat : Option S) → ((seat ≡ None) ↔ P) → (token_there token seat ≡ None) ↔ P
  none_there P None is = ((λ e. is.0 refl), (λ p. refl))
  none_there P (Some s) is = ((λ e. absurd (none-some (token s) (sym e))), (λ p. absurd (none-some s (sym (is.1 p)))))

  -- and what is so of the token of a seat is so of it
  some_there : (P : Token D → Type 0) (seat : Option S) → IfSome seat (λ s. P (token s)) → IfSome (token_there token seat) P
  some_there P None is = is
  some_there P (Some s) is = is

module _ {D S A : Type 0} (token : S → Token D) where
  -- seats are taken from the front, one for each worker
  pub record AreSeated (turns : ℕ) (old now : SeatsOf D) (states : List (WorkerState S A)) : Type 0 where
    pub others : List (Option (Token D))
    pub all : old.seats ≡ map (seat_at token) states ++ others
    pub out : now ≡ record old { seats = out_before (map (seat_at token) states) others }
    pub clear : All (IsClear turns) states

module _ {D S A : Type 0} (token : S → Token D) (turns : ℕ) (old : SeatsOf D) where
  pub none_seated : (states : List (WorkerState S A)) → states ≡ [] → AreSeated token turns old old states
  none_seated states none = subst (AreSeated token turns old old) (sym none) (record { others = old.seats; all = refl; out = refl; clear = λ k d lt. absurd (omega (arith, lt)) })

  -- the next seat is taken
  pub one_seated : (now new : SeatsOf D) (states : List (WorkerState S A)) (state : WorkerState S A) → AreSeated token turns old now states → All (λ seat. IsSome seat) old.seats → length states < length old.seats
      → ((state.seat ≡ None) ↔ All (λ seat. seat ≡ None) now.seats) → IfSome state.seat (λ s. IsFirst now.seats (token s) × (new ≡ record now { seats = set now.seats (number_in (token s)) None })) → IsClear turns state
      → AreSeated token turns old new (states ++ state ∷ [])
  one_seated now new states state are some lt none first clear = by are.others refl
    where
      by : (others : List (Option (Token D))) → are.others ≡ others → AreSeated token turns old new (states ++ state ∷ [])
      by [] is =
          let count : length old.seats ≡ length (map (seat_at token) states) = ap (λ (xs : List (Option (Token D))). length xs) (are.all ∙ ap (λ (os : List (Option (Token D))). map (seat_at token) states ++ os) is ∙ append-nil (map (seat_at token) states)) in
          absurd (omega (arith, lt, count, length-map states (seat_at token)))
      by (None ∷ others) is =
          let all = are.all ∙ ap (λ (os : List (Option (Token D))). map (seat_at token) states ++ os) is in
          let at : slice_get old.seats (length states) ≡ Some None = ap (λ xs. slice_get xs (length states)) all ∙ ap (slice_get (map (seat_at token) states ++ None ∷ others)) (sym (length-map states (seat_at token))) ∙ get-append_right (map (seat_at token) states) (None ∷ others) 0 (length (map (seat_at token) states)) (omega arith) in
          absurd (not_none (get_or old.seats (length states) None) (get_or_from_slice_get old.seats (length states) None None at) (some (length states) None lt))
      by (Some t ∷ others) is =
          let gone = map (seat_at token) states in
          let seats : now.seats ≡ out_before gone (Some t ∷ others) = ap (λ (s : SeatsOf D). s.seats) are.out ∙ ap (out_before gone) is in
          let taken = next_is_taken gone others t now new (seat_at token state) seats (none_there token (All (λ seat. seat ≡ None) now.seats) state.seat none) (some_there token (λ s. IsFirst now.seats s × (new ≡ record now { seats = set now.seats (number_in s) None })) state.seat first) in
          let pushed : gone ++ Some t ∷ [] ≡ map (seat_at token) (states ++ state ∷ []) = ap (λ o. gone ++ o ∷ []) (sym taken.0) ∙ sym (map-append (seat_at token) states (state ∷ [])) in
          record {
            others = others;
            all = are.all ∙ ap (λ (os : List (Option (Token D))). gone ++ os) is ∙ sym (append_assoc gone (Some t ∷ []) others) ∙ ap (λ (os : List (Option (Token D))). os ++ others) pushed;
            out = taken.1 ∙ (λ i. record (are.out i) { seats = out_before (pushed i) others });
            clear = All-push (IsClear turns) states state are.clear clear;
          }

  -- until all are
  pub all_seated : (now : SeatsOf D) (states : List (WorkerState S A)) → AreSeated token turns old now states → length old.seats ≤ length states → AreClear token turns old.seats states × (now ≡ record old { seats = map (λ _. None) states })
  all_seated now states are le = by are.others refl
    where
      by : (others : List (Option (Token D))) → are.others ≡ others → AreClear token turns old.seats states × (now ≡ record old { seats = map (λ _. None) states })
      by [] is = (
        record { seats = sym (are.all ∙ ap (λ (os : List (Option (Token D))). map (seat_at token) states ++ os) is ∙ append-nil (map (seat_at token) states)); each = are.clear },
        are.out ∙ ap (λ os. record old { seats = out_before (map (seat_at token) states) os }) is ∙ ap (λ xs. record old { seats = xs }) (append-nil (map (λ _. None) (map (seat_at token) states)) ∙ map-map (λ _. None) (seat_at token) states),
      )
      by (o ∷ others) is =
          let count : length old.seats ≡ length (map (seat_at token) states ++ o ∷ others) = ap (λ (xs : List (Option (Token D))). length xs) (are.all ∙ ap (λ (os : List (Option (Token D))). map (seat_at token) states ++ os) is) in
          absurd (omega (arith, le, count, length-append (map (seat_at token) states) (o ∷ others), length-map states (seat_at token)))

module _ {D S A W : Type 0} (token : S → Token D) (told : A → Turn W) where
  -- states are cleared from the back, and their seats are given back
  pub record AreCleared (whole left : List (WorkerState S A)) (old now : SeatsOf D) (kept : List (List (Turn W))) : Type 0 where
    pub given : List (WorkerState S A)
    pub all : whole ≡ left ++ given
    pub back : now ≡ record old { seats = out_before (map (seat_at token) left) (map (seat_at token) given) }
    pub turns : kept ≡ reverse (map (turns_at told) given)

module _ {D S A W : Type 0} (token : S → Token D) (told : A → Turn W) (whole : List (WorkerState S A)) (old : SeatsOf D) (taken : AreTaken token old whole) where
  pub none_cleared : (kept : List (List (Turn W))) → kept ≡ [] → AreCleared token told whole whole old old kept
  none_cleared kept none = record {
    given = [];
    all = sym (append-nil whole);
    back = ap (λ xs. record old { seats = xs }) (taken.out ∙ sym (append-nil (map (λ _. None) (map (seat_at token) whole)) ∙ map-map (λ _. None) (seat_at token) whole));
    turns = none;
  }

  module _ (left rest : List (WorkerState S A)) (state : WorkerState S A) (now : SeatsOf D) (kept : List (List (Turn W))) (are : AreCleared token told whole left old now kept) (pops : left ≡ rest ++ state ∷ []) where
    all : whole ≡ rest ++ state ∷ are.given
    all = are.all ∙ ap (λ ds. ds ++ are.given) pops ∙ append_assoc rest (state ∷ []) are.given

    -- what the worker has
    abbrev Has : Type 0
    Has = (seat : Token D) × (seat_at token state ≡ Some seat) × (number_in seat ≡ length rest) × (seat.table ≡ old.table) × (seat.view.terms ≡ old.terms)

    has : Has
    has = taken.each (length rest) state (ap (λ ds. slice_get ds (length rest)) all ∙ get-append_right rest (state ∷ are.given) 0 (length rest) (omega arith))

    pub has_seat : state.seat ≡ None → ⊥
    has_seat none = none-some has.0 (sym (ap (token_there token) none) ∙ has.1)

    seats_are : now.seats ≡ out_before (map (seat_at token) rest ++ seat_at token state ∷ []) (map (seat_at token) are.given)
    seats_are = ap (λ (s : SeatsOf D). s.seats) are.back ∙ ap (λ ds. out_before ds (map (seat_at token) are.given)) (ap (map (seat_at token)) pops ∙ map-append (seat_at token) rest (state ∷ []))

    module _ (seat : S) (is : state.seat ≡ Some seat) where
      there : seat_at token state ≡ Some (token seat)
      there = ap (token_there token) is

      same : has.0 ≡ token seat
      same = same_Some has.0 (token seat) (sym has.1 ∙ there)

      number_is : number_in (token seat) ≡ length (map (seat_at token) rest)
      number_is = ap number_in (sym same) ∙ has.2 ∙ sym (length-map rest (seat_at token))

      pub is_of : ((token seat).table ≡ now.table) × ((token seat).view.terms ≡ now.terms)
      is_of = (ap (λ (t : Token D). t.table) (sym same) ∙ has.3 ∙ sym (ap (λ (s : SeatsOf D). s.table) are.back), ap (λ (t : Token D). t.view.terms) (sym same) ∙ has.4 ∙ sym (ap (λ (s : SeatsOf D). s.terms) are.back))

      pub is_given_out : slice_get now.seats (number_in (token seat)) ≡ Some None
      is_given_out = (λ i. slice_get (seats_are i) (number_is i)) ∙ last_is_out (map (seat_at token) rest) (seat_at token state) (map (seat_at token) are.given)

      pub one_cleared : (new : SeatsOf D) → new ≡ record now { seats = set now.seats (number_in (token seat)) (Some (token seat)) } → AreCleared token told whole rest old new (kept ++ turns_at told state ∷ [])
      one_cleared new gives = record {
        given = state ∷ are.given;
        all = all;
        back = gives ∙ (λ i. record (are.back i) { seats = set (seats_are i) (number_is i) (sym there i) }) ∙ ap (λ xs. record old { seats = xs }) (one_given (map (seat_at token) rest) (seat_at token state) (map (seat_at token) are.given));
        turns = ap (λ ks. ks ++ turns_at told state ∷ []) are.turns ∙ sym (reverse-append (turns_at told state ∷ []) (map (turns_at told) are.given));
      }

  pub all_cleared : (left : List (WorkerState S A)) (now : SeatsOf D) (turns back : List (Vec A Global)) → AreCleared token told whole left old now (lists_told told turns) → length left ≡ 0 → back ≡ reverse turns → lists_told told back ≡ map (turns_at told) whole
  all_cleared left now turns back are none is =
      ap (lists_told told) is ∙ sym (reverse-map (λ v. map told v.items) turns) ∙ ap reverse are.turns ∙ reverse-reverse (map (turns_at told) are.given) ∙ ap (map (turns_at told)) (sym (are.all ∙ ap (λ ds. ds ++ are.given) (nil_from_length left none)))
