-- What is there before the first turn, and once all callers have made their turns.
use Rattle.std.proofs.Common.{◌≡◌, ℕ, zero, suc, ◌+◌, ◌≤◌, List, [], ◌∷◌, ◌++◌, map, length, take, drop, get_or, Vec, Global, Option, Some, None, IfSome, IsSome, ap, sym, refl, ◌∙◌, subst, arith}
use Rattle.std.specs.Prelude.{slice_get, if◌then◌else◌}
use Rattle.std.specs.List.{All}
use Rattle.std.proofs.lemmas.Bool.{le-ltb}
use Rattle.std.proofs.lemmas.List.{length-map, map-id}
use Rattle.std.proofs.lemmas.Option.{none-some, same_Some, slice_get_within, slice_get-get_or, get_or_from_slice_get}
use mathlib.Core.List.{map-map}
use Rattle.amoebot_state.specs.declared.verdict.Verdict.{Verdict}
use Rattle.amoebot_state.specs.Zones.{Shown}
use Rattle.claim_core.specs.declared.state.Caller.{Caller}
use Rattle.claim_core.specs.declared.state.Phase.TheVariants.{Claim, Ended}
use Rattle.claim_core.specs.Turns.{MarkLists}
use Rattle.claim_core.specs.Machine.{fresh}
use Rattle.claim_core.proofs.Places.{map-get, get-map, of_a_list}
use Rattle.claim_rule.specs.declared.views.Terms.{Terms}
use Rattle.claim_rule.specs.Views.{setup_of_terms}
use Rattle.claim_rule.specs.Tokens.{FieldOf, Token, number_in, doing}
use Rattle.claim_rule.specs.Seating.{SeatsOf, AreOf}
use Rattle.claim_rule.specs.Stands.{records_from}
use Rattle.claim_rule.specs.Closing.{marks_at_seat}
use Rattle.claim_rule.specs.Opened.{first_records, first_seats, seat_with}
use Rattle.claim_rule.proofs.Opens.{from}
use Rattle.node_claims.specs.declared.turn.Turn.{Turn}
use Rattle.node_claims.specs.Answers.{mark_of}
use Rattle.caller_workers.specs.declared.workers.WorkerState.{WorkerState}
use Rattle.caller_workers.specs.Turns.{AreTurnsOf, lists_told, marks_in}
use Rattle.caller_workers.specs.WorkerStates.{HasMade, HaveMade, AreClear, AreTaken, AreAllMade, caller_between_turns, seat_at, turns_at}

-- what two functions give of the elements at one place is one list
maps_agree : {A B C : Type 0} (f : A → C) (g : B → C) (xs : List A) (ys : List B) → length xs ≡ length ys → ((k : ℕ) (x : A) (y : B) → slice_get xs k ≡ Some x → slice_get ys k ≡ Some y → f x ≡ g y) → map f xs ≡ map g ys
maps_agree f g [] [] same each = refl
maps_agree f g [] (y ∷ ys) same each = absurd (omega (arith, same))
maps_agree f g (x ∷ xs) [] same each = absurd (omega (arith, same))
maps_agree f g (x ∷ xs) (y ∷ ys) same each = λ i. each zero x y refl refl i ∷ maps_agree f g xs ys (omega (arith, same)) (λ k. each (suc k)) i

is_there : {A : Type 0} (x : A) → IsSome (Some x)
is_there x = refl

module _ {D S A W : Type 0} (verdict : D → Shown → Verdict) (token : S → Token D) (told : A → Turn W) (f : FieldOf D) where
  -- before the first turn
  pub first_have : (states : List (WorkerState S A)) → AreClear token f.terms.lists.turns ((first_seats verdict f).seats) states → HaveMade verdict token told f 0 states
  first_have states clear c d lt =
      let state = get_or states c d in
      let at = ap (λ xs. slice_get xs c) (sym clear.seats) ∙ get-map (seat_at token) states c state (slice_get-get_or states c d lt) in
      let m = map-get (λ r. Some (seat_with f r)) (first_records verdict f.terms) c (seat_at token state) at in
      let is = from verdict f.terms 0 c (map (λ (_ : List ℕ). fresh (setup_of_terms verdict f.terms)) f.terms.lists.ids) m.0 m.1 in
      let begun = map-get (λ (_ : List ℕ). fresh (setup_of_terms verdict f.terms)) f.terms.lists.ids c m.0.caller is.1 in
      let room = clear.each c d lt in
      let none : turns_at told state ≡ [] = ap (map told) room.none in
      let number_is : number_in (seat_with f m.0) ≡ c = omega (arith, is.0) in
      record {
        seat = seat_with f m.0;
        there = sym m.2;
        of = record { table = refl; terms = refl };
        number = number_is;
        doing = sym begun.2 ∙ ap (caller_between_turns (setup_of_terms verdict f.terms) 0) (sym (ap marks_in none));
        count = ap length none;
        room = room.room;
        each = λ turn answer e. absurd (none-some answer (ap (λ xs. slice_get xs turn) (sym none) ∙ e));
      }

  module _ (t : ℕ) (all : t ≡ f.terms.lists.turns) (states : List (WorkerState S A)) (have : HaveMade verdict token told f t states) where
    has : (c : ℕ) (state : WorkerState S A) → slice_get states c ≡ Some state → HasMade verdict token told f c t state
    has c state at = subst (HasMade verdict token told f c t) (get_or_from_slice_get states c state state at) (have c state (slice_get_within states c state at))

    -- the workers' seats are those that were taken
    pub are_taken : (s : SeatsOf D) → s.table ≡ f.table → s.terms ≡ Some f.terms → (before : List (WorkerState S A)) → s.seats ≡ map (λ _. None) before → length before ≡ length states → AreTaken token s states
    are_taken s table terms before out count = record {
      out = out ∙ maps_agree (λ _. None) (λ _. None) before states count (λ k x y e h. refl);
      each = λ c state at.
          let h = has c state at in
          (h.seat, h.there, h.number, h.of.table ∙ sym table, h.of.terms ∙ sym terms);
    }

    each_seat : (P : Option (Token D) → Type 0) → ((state : WorkerState S A) (c : ℕ) → HasMade verdict token told f c t state → P (seat_at token state)) → All P (map (seat_at token) states)
    each_seat P each c d lt =
        let m = map-get (seat_at token) states c (get_or (map (seat_at token) states) c d) (slice_get-get_or (map (seat_at token) states) c d lt) in
        subst P m.2 (each m.0 c (has c m.0 m.1))

    -- all are there, and have ended
    pub all_there : All (λ seat. IsSome seat) (map (seat_at token) states)
    all_there = each_seat (λ seat. IsSome seat) (λ state c h. subst (λ o. IsSome o) (sym h.there) (is_there h.seat))

    pub all_ended : All (λ seat. IfSome seat (λ token. (doing token).phase ≡ Ended)) (map (seat_at token) states)
    all_ended = each_seat (λ seat. IfSome seat (λ token. (doing token).phase ≡ Ended)) (λ state c h.
        subst (λ o. IfSome o (λ token. (doing token).phase ≡ Ended)) (sym h.there)
        (ap (λ (k : Caller). k.phase) h.doing ∙ ap (λ b. if b then Claim else Ended) (le-ltb t f.terms.lists.turns (let le : f.terms.lists.turns ≤ t = omega (arith, all) in le))))

    -- their marks are those of what became of their turns
    pub marks_are : map marks_at_seat (map (seat_at token) states) ≡ map marks_in (map (turns_at told) states)
    marks_are = map-map marks_at_seat (seat_at token) states ∙ maps_agree (λ d. marks_at_seat (seat_at token d)) (λ d. marks_in (turns_at told d)) states states refl (λ c x y at of.
        let same = same_Some x y (sym at ∙ of) in
        let h = has c x at in
        ap marks_at_seat h.there ∙ ap (λ (k : Caller). k.marks) h.doing ∙ ap (λ d. marks_in (turns_at told d)) same) ∙ sym (map-map marks_in (turns_at told) states)

    -- there are as many turns as a caller has
    pub all_turns : All (λ own. length own ≡ t) (map (turns_at told) states)
    all_turns c d lt =
        let m = map-get (turns_at told) states c (get_or (map (turns_at told) states) c d) (slice_get-get_or (map (turns_at told) states) c d lt) in
        subst (λ own. length own ≡ t) m.2 (has c m.0 m.1).count

    -- and each is of its caller and number
    pub are_turns : (marks : MarkLists) → marks.marks ≡ map marks_in (map (turns_at told) states) → AreTurnsOf marks (map (turns_at told) states)
    are_turns marks is = record {
      marks = is;
      each = λ c k answer e.
          let own = of_a_list (map (turns_at told) states) c k answer e in
          let m = map-get (turns_at told) states c own.0 own.1 in
          (has c m.0 m.1).each k answer (ap (λ xs. slice_get xs k) m.2 ∙ own.2);
    }

    -- so all turns are made, once the seats are given back and the marks are copied
    pub are_made : (s : SeatsOf D) → AreOf f s → s.seats ≡ map (seat_at token) states → length states ≡ length f.terms.lists.ids → (marks : MarkLists) (turns : List (List (Turn W))) → turns ≡ map (turns_at told) states
        → marks ≡ record { turns = f.terms.lists.turns; marks = map marks_in turns } → AreAllMade f s marks turns
    are_made s of seats count marks turns is copied = record {
      of = of;
      count = ap length seats ∙ length-map states (seat_at token) ∙ count;
      there = subst (All (λ seat. IsSome seat)) (sym seats) all_there;
      ended = subst (All (λ seat. IfSome seat (λ t. (doing t).phase ≡ Ended))) (sym seats) all_ended;
      marks = copied ∙ ap (λ ms. record { turns = f.terms.lists.turns; marks = ms }) (ap (map marks_in) is ∙ sym marks_are ∙ ap (map marks_at_seat) (sym seats));
      turns = subst (AreTurnsOf marks) (sym is) (are_turns marks (ap (λ (m : MarkLists). m.marks) copied ∙ ap (map marks_in) is));
    }

-- the marks of the answers are those of what became of the turns
pub marks_told : {A W : Type 0} (told : A → Turn W) (answers : List (Vec A Global)) → map (map (λ a. mark_of (told a))) (map (λ own. own.items) answers) ≡ map marks_in (lists_told told answers)
marks_told told [] = refl
marks_told told (own ∷ answers) = λ i. sym (map-map mark_of told own.items) i ∷ marks_told told answers i

-- where the answers are the turns themselves
pub told_is : {W : Type 0} (turns : List (Vec (Turn W) Global)) → lists_told (λ turn. turn) turns ≡ map (λ own. own.items) turns
told_is [] = refl
told_is (own ∷ turns) = λ i. map-id own.items i ∷ told_is turns i

-- what ended seats of all callers give of their marks holds of the marks of the report, whatever the terms are called
pub of_all_made : {D W : Type 0} (f : FieldOf D) (seats : SeatsOf D) (marks : MarkLists) (turns : List (List (Turn W))) → AreAllMade f seats marks turns
    → (z : Terms D) → f.terms ≡ z → (P : MarkLists → Type 0)
    → (length seats.seats ≡ length z.lists.ids → All (λ seat. IsSome seat) seats.seats → All (λ seat. IfSome seat (λ token. (doing token).phase ≡ Ended)) seats.seats → P (record { turns = z.lists.turns; marks = map marks_at_seat seats.seats }))
    → P marks
of_all_made {D} f seats marks turns made z terms P ended =
    let count = made.count ∙ ap (λ (y : Terms D). length y.lists.ids) terms in
    let same : record { turns = z.lists.turns; marks = map marks_at_seat seats.seats } ≡ marks = sym (made.marks ∙ ap (λ (y : Terms D). record { turns = y.lists.turns; marks = map marks_at_seat seats.seats }) terms) in
    subst P same (ended count made.there made.ended)

-- a vector whose elements were written through a slice has these
pub written : {A : Type 0} (now old : List A) (n : ℕ) → length now ≡ length old → n ≡ length old → take n (now ++ drop (length now) old) ≡ now
written [] [] zero same is = refl
written [] [] (suc n) same is = absurd (omega (arith, is))
written [] (y ∷ old) n same is = absurd (omega (arith, same))
written (x ∷ now) [] n same is = absurd (omega (arith, same))
written (x ∷ now) (y ∷ old) zero same is = absurd (omega (arith, is))
written (x ∷ now) (y ∷ old) (suc n) same is = ap (λ xs. x ∷ xs) (written now old n (omega (arith, same)) (omega (arith, is)))

-- there are as many seats as callers
pub seats_count : {D : Type 0} (verdict : D → Shown → Verdict) (f : FieldOf D) → length ((first_seats verdict f).seats) ≡ length f.terms.lists.ids
seats_count verdict f = length-map (first_records verdict f.terms) (λ r. Some (seat_with f r)) ∙ count 0 (map (λ (_ : List ℕ). fresh (setup_of_terms verdict f.terms)) f.terms.lists.ids) ∙ length-map f.terms.lists.ids (λ (_ : List ℕ). fresh (setup_of_terms verdict f.terms))
  where
    count : (b : ℕ) (ks : List Caller) → length (records_from verdict f.terms b ks) ≡ length ks
    count b [] = refl
    count b (k ∷ ks) = let e = count (b + 1) ks in omega (arith, e)

-- so there are as many workers as callers, where they have these seats
pub as_many : {D S A : Type 0} (verdict : D → Shown → Verdict) (token : S → Token D) (f : FieldOf D) (turns : ℕ) (given : SeatsOf D) (states : List (WorkerState S A)) → AreClear token turns given.seats states → given ≡ first_seats verdict f → length states ≡ length f.terms.lists.ids
as_many {D} verdict token f turns given states clear are = sym (length-map states (seat_at token)) ∙ ap length (clear.seats ∙ ap (λ (s : SeatsOf D). s.seats) are) ∙ seats_count verdict f
