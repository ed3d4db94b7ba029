-- How far the workers have come, what is there before they begin, and what they leave.
use Rattle.std.specs.Prelude.{◌≡◌, ◌≤◌, ◌<◌, ◌^◌, ℕ, List, [], ◌++◌, map, length, slice_get, slice_set, slice_index_or, vec_capacity, IfSome, IsSome}
use Rattle.std.specs.declared.option.Option.{Option}
use Rattle.std.specs.declared.option.Option.TheVariants.{Some, None}
use Rattle.std.specs.List.{All}
use Rattle.amoebot_state.specs.declared.verdict.Verdict.{Verdict}
use Rattle.amoebot_state.specs.Zones.{Shown}
use Rattle.claim_core.specs.declared.state.Caller.{Caller}
use Rattle.claim_core.specs.declared.state.Phase.TheVariants.{Ended}
use Rattle.claim_core.specs.declared.marks.Mark.{Mark}
use Rattle.claim_core.specs.Turns.{MarkLists, marks_of}
use Rattle.claim_core.specs.Machine.{Setup, caller, opening_phase}
use Rattle.claim_rule.specs.Views.{setup_of_terms}
use Rattle.claim_rule.specs.Plays.{about, bot_in}
use Rattle.claim_rule.specs.Tokens.{FieldOf, Token, IsOf, number_in, doing}
use Rattle.claim_rule.specs.Seating.{SeatsOf, AreOf}
use Rattle.claim_rule.specs.Closing.{marks_at_seat}
use Rattle.node_claims.specs.declared.turn.Turn.{Turn}
use Rattle.node_claims.specs.Answers.{HasAnswered, caller_of, turn_of}
use Rattle.caller_workers.specs.declared.workers.WorkerState.{WorkerState}
use Rattle.caller_workers.specs.Turns.{AreTurnsOf, marks_in}

-- a caller that has made so many turns, with these marks, and holds nothing
abbrev pub caller_between_turns : Setup → ℕ → List Mark → Caller
caller_between_turns g t marks = caller t (opening_phase g t) [] marks

-- the marks with these behind those that a caller has
abbrev pub with_marks : MarkLists → ℕ → List Mark → MarkLists
with_marks marks caller own =
    record marks { marks = slice_set marks.marks caller (marks_of marks caller ++ own) }

module _ {S A : Type 0} where
  -- the state of a worker that has made no turn, with room for so many
  pub record IsClear (turns : ℕ) (state : WorkerState S A) : Type 0 where
    pub none : state.turns.items ≡ []
    pub room : turns ≤ vec_capacity state.turns

module _ {D S : Type 0} (token : S → Token D) where
  -- the token of a seat that is there
  abbrev pub token_there : Option S → Option (Token D)
  token_there None = None
  token_there (Some seat) = Some (token seat)

module _ {S A W : Type 0} (told : A → Turn W) where
  -- what became of a worker's turns
  abbrev pub turns_at : WorkerState S A → List (Turn W)
  turns_at state = map told state.turns.items

module _ {D S A : Type 0} (token : S → Token D) where
  abbrev pub seat_at : WorkerState S A → Option (Token D)
  seat_at state = token_there token state.seat

  -- the workers have these seats, and room for so many turns each
  pub record AreClear (turns : ℕ) (given : List (Option (Token D)))
      (states : List (WorkerState S A)) : Type 0 where
    pub seats : map seat_at states ≡ given
    pub each : All (IsClear turns) states

  -- all seats are out, and each worker has its caller's seat
  pub record AreTaken (s : SeatsOf D) (states : List (WorkerState S A)) : Type 0 where
    pub out : s.seats ≡ map (λ _. None) states
    pub each : (c : ℕ) (state : WorkerState S A)
        → slice_get states c ≡ Some state
        → (seat : Token D) × (seat_at state ≡ Some seat) × (number_in seat ≡ c) × (seat.table ≡ s.table)
        × (seat.view.terms ≡ s.terms)

module _ {D S : Type 0} (verdict : D → Shown → Verdict) (token : S → Token D) (f : FieldOf D) where
  -- the seat is this field's, and its caller makes this turn next, on this amoebot
  pub record IsNextTurn (turn bot : ℕ) (seat : S) : Type 0 where
    pub fits : (turn < 2 ^ 32) × (bot < 2 ^ 16)
    pub of : IsOf f (token seat)
    pub next : turn ≡ (doing (token seat)).turn
    pub left : turn < (about verdict (token seat).view).lists.turns
    pub its_bot : bot ≡ bot_in verdict (token seat).view

module _ {D S A W : Type 0} (verdict : D → Shown → Verdict)
    (token : S → Token D) (told : A → Turn W) (f : FieldOf D) where
  -- this is what a turn leaves of the seat, and its answer
  pub record IsTurnMade (seat : S) (made : S × A) : Type 0 where
    pub answer : HasAnswered verdict (token seat) (token made.0) (told made.1)
    pub of : IsOf f (token made.0)

  -- what may be called at each next turn of the field, and makes it
  pub record MakesTurns (pre : ℕ → ℕ → S → Type 0) (post : ℕ → ℕ → S → S × A → Type 0) : Type 0 where
    pub may : (turn bot : ℕ) (seat : S) → IsNextTurn verdict token f turn bot seat → pre turn bot seat
    pub makes : (turn bot : ℕ) (seat : S) (made : S × A)
        → IsNextTurn verdict token f turn bot seat
        → post turn bot seat made
        → IsTurnMade seat made

  -- The seat of this caller is there, which has made its first so many turns.
  -- What became of each is kept, and there is room for the others.
  pub record HasMade (c t : ℕ) (state : WorkerState S A) : Type 0 where
    pub seat : Token D
    pub there : seat_at token state ≡ Some seat
    pub of : IsOf f seat
    pub number : number_in seat ≡ c
    pub doing : doing seat
        ≡ caller_between_turns (setup_of_terms verdict f.terms) t (marks_in (turns_at told state))
    pub count : length (turns_at told state) ≡ t
    pub room : f.terms.lists.turns ≤ vec_capacity state.turns
    pub each : (turn : ℕ) (answer : Turn W)
        → slice_get (turns_at told state) turn ≡ Some answer
        → (caller_of answer ≡ c) × (turn_of answer ≡ turn)

  -- each caller's worker has made so many turns
  abbrev pub HaveMade : ℕ → List (WorkerState S A) → Type 0
  HaveMade t states = (c : ℕ) (d : WorkerState S A) → c < length states
      → HasMade c t (slice_index_or states c d)

module _ {D W : Type 0} (f : FieldOf D) where
  -- All turns are made: the seats of all callers are there and have ended.
  -- The marks are those of the seats, and those of the turns, each with its caller and its number.
  pub record AreAllMade (seats : SeatsOf D) (told : MarkLists) (made : List (List (Turn W))) : Type 0 where
    pub of : AreOf f seats
    pub count : length seats.seats ≡ length f.terms.lists.ids
    pub there : All (λ seat. IsSome seat) seats.seats
    pub ended : All (λ seat. IfSome seat (λ token. (doing token).phase ≡ Ended)) seats.seats
    pub marks : told ≡ record { turns = f.terms.lists.turns; marks = map marks_at_seat seats.seats }
    pub turns : AreTurnsOf told made
