-- What is wrong with a shape is what a world refuses.
use Rattle.std.specs.Prelude.{◌≡◌, ℕ, List, Some, None, length, map, slice_get}
use Rattle.text_tokens.specs.declared.refusal.RefusalKind.{RefusalKind}
use Rattle.text_tokens.specs.declared.refusal.RefusalKind.TheVariants.{BadWall}
use Rattle.text_tokens.specs.Cursor.{on_line}
use Rattle.amoebot_state.specs.declared.refusal.WorldRefusal.{WorldRefusal}
use Rattle.amoebot_state.specs.Refusals.{IsFaultless, IsFirstFault, AreWalls, IsFirstBadWall}
use Rattle.shape_text.specs.Shapes.{WrittenWall, WrittenBot, WrittenShape, written_node, written_amoebot, kind_of, shape_frame, shape_fault}

-- the walls of a shape lie in its area, each once
abbrev pub HasWalls : WrittenShape → Type 0
HasWalls s = AreWalls s.area (map written_node s.walls) (length s.walls)

-- Nothing where no wall and no amoebot breaks a rule of worlds.
-- Else the first wall that may not stand there, on the line of its word.
-- Else the first rule that the first amoebot breaks, on the line of its word.
pub record JudgedAsWorlds : Type 0 where
  pub fine : (maxes : List ℕ) (s : WrittenShape)
      → HasWalls s
      → IsFaultless (shape_frame maxes s) (map written_amoebot s.bots) (length s.bots)
      → shape_fault maxes s ≡ None
  pub wall : (maxes : List ℕ) (s : WrittenShape) (place : ℕ) (w : WrittenWall)
      → IsFirstBadWall s.area (map written_node s.walls) place
      → slice_get s.walls place ≡ Some w
      → shape_fault maxes s ≡ Some (on_line w.line BadWall)
  pub first : (maxes : List ℕ) (s : WrittenShape) (e : WorldRefusal)
      → HasWalls s
      → (f : IsFirstFault (shape_frame maxes s) (map written_amoebot s.bots) e)
      (w : WrittenBot) (k : RefusalKind)
      → slice_get s.bots f.place ≡ Some w
      → kind_of e ≡ Some k
      → shape_fault maxes s ≡ Some (on_line w.line k)
