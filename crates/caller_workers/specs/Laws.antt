-- What follows from the definitions alone.
use Rattle.std.specs.Prelude.{◌≡◌, List, [], ◌∷◌}
use Rattle.amoebot_state.specs.declared.cell.CellName.TheVariants as name
use Rattle.amoebot_state.specs.declared.verdict.Failure.TheVariants as failure
use Rattle.claim_core.specs.declared.marks.Mark.TheVariants as mark
use Rattle.claim_core.specs.Turns.{MarkLists}
use Rattle.claim_core.specs.Tags.{tag}
use Rattle.claim_rule.specs.Tokens.{refused_of, placed_turn}
use Rattle.claim_rule.specs.declared.manner.ByJournal.{ByJournal}
use Rattle.node_claims.specs.declared.turn.Turn.{Turn}
use Rattle.node_claims.specs.declared.turn.Turn.TheVariants as turn
use Rattle.caller_workers.specs.Turns.{AreTurnsOf}

-- marks have at most one list of turns
abbrev pub TurnsAreOne : Type 0 → Type 0
TurnsAreOne W = (told : MarkLists) (one two : List (List (Turn W)))
    → AreTurnsOf told one → AreTurnsOf told two → one ≡ two

-- Two callers with two turns each.
-- The first commits, and is then idle, where the journal has one entry.
-- The second finds the body of its amoebot held by the first one's first turn.
-- Then it fails, since its movement might split the shape.
abbrev pub small_marks : MarkLists
small_marks = record {
  turns = 2;
  marks = (mark.Done 0 ∷ mark.Idle 1 ∷ [])
      ∷ (mark.Busy (name.Body 1) 0 0 0 0 ∷ mark.Failed failure.WouldSplit 1 ∷ []) ∷ [];
}

abbrev pub small_turns : List (List (Turn ByJournal))
small_turns =
    (turn.Done (placed_turn 0 0 0) ∷ turn.Idle (placed_turn 0 1 1) ∷ [])
    ∷ (turn.Busy (refused_of 1 0 (name.Body 1) (tag 0 0 0) 0)
    ∷ turn.Failed failure.WouldSplit (placed_turn 1 1 1) ∷ [])
    ∷ []

abbrev pub SmallTurns : Type 0
SmallTurns = AreTurnsOf small_marks small_turns
