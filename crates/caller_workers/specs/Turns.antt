-- What became of each turn, beside the marks of a report.
use Rattle.std.specs.Prelude.{◌≡◌, ℕ, List, [], Vec, map, slice_get, slice_index_or}
use Rattle.std.specs.declared.alloc.Global.{Global}
use Rattle.std.specs.declared.option.Option.{Option}
use Rattle.std.specs.declared.option.Option.TheVariants.{Some}
use Rattle.claim_core.specs.declared.marks.Mark.{Mark}
use Rattle.claim_core.specs.Turns.{MarkLists}
use Rattle.node_claims.specs.declared.turn.Turn.{Turn}
use Rattle.node_claims.specs.Answers.{caller_of, turn_of, mark_of}

-- what a caller's turns were answered with, and one of them, if the caller has it
abbrev pub turns_of : {A : Type 0} → List (List A) → ℕ → List A
turns_of turns caller = slice_index_or turns caller []

abbrev pub turn_at : {A : Type 0} → List (List A) → ℕ → ℕ → Option A
turn_at turns caller turn = slice_get (turns_of turns caller) turn

-- the marks of some turns
abbrev pub marks_in : {W : Type 0} → List (Turn W) → List Mark
marks_in turns = map mark_of turns

-- the turns of each caller, each with this caller and its number,
-- have the caller's marks in their order, and there are no others
pub record AreTurnsOf {W : Type 0} (told : MarkLists) (turns : List (List (Turn W))) : Type 0 where
  pub marks : told.marks ≡ map marks_in turns
  pub each : (caller turn : ℕ) (answer : Turn W)
      → turn_at turns caller turn ≡ Some answer
      → (caller_of answer ≡ caller) × (turn_of answer ≡ turn)

-- what answers tell of the turns of each caller
abbrev pub lists_told : {A W : Type 0} → (A → Turn W) → List (Vec A Global) → List (List (Turn W))
lists_told told answers = map (λ own. map told own.items) answers
