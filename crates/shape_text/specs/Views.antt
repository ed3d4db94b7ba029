-- What the code reads, as what the grammars say that it stands for.
use Rattle.std.specs.Prelude.{◌≡◌, ◌<◌, ℕ, List, length, Option, Some, None, Result, Ok, Err, map, slice_get}
use Rattle.text_tokens.specs.declared.refusal.RefusalKind.{RefusalKind}
use Rattle.text_tokens.specs.declared.refusal.RefusalKind.TheVariants as kind
use Rattle.text_tokens.specs.declared.refusal.ReadRefusal.{ReadRefusal}
use Rattle.text_tokens.specs.declared.refusal.ReadRefusal.TheVariants.{Refused, NoMemory}
use Rattle.text_tokens.specs.Cursor.{on_line}
use Rattle.amoebot_state.specs.declared.refusal.WorldRefusal.{WorldRefusal}
use Rattle.amoebot_state.specs.declared.refusal.WorldRefusal.TheVariants as world
use Rattle.amoebot_state.specs.Configs.{Config}
use Rattle.shape_text.specs.declared.shape.Listed.{Listed}
use Rattle.shape_text.specs.declared.shape.Listed.TheVariants as list
use Rattle.shape_text.specs.declared.shape.WrittenWall as code_wall
use Rattle.shape_text.specs.declared.shape.WrittenBot as code_bot
use Rattle.shape_text.specs.declared.shape.WrittenShape as code_shape
use Rattle.shape_text.specs.Shapes.{WrittenWall, WrittenBot, WrittenShape, written_wall, written_bot, written_shape, shape_fault, stands_for}

abbrev pub wall_view : code_wall.WrittenWall → WrittenWall
wall_view w = written_wall w.line w.node

abbrev pub bot_view : code_bot.WrittenBot → WrittenBot
bot_view b = written_bot b.line b.bot

abbrev pub shape : code_shape.WrittenShape → WrittenShape
shape s = written_shape s.area (map wall_view s.walls.items) (map bot_view s.bots.items)

-- what a world refuses, by the list of the shape that has it and by its place there, and for what
abbrev pub blamed_at : WorldRefusal → Option (Listed × ℕ × RefusalKind)
blamed_at (world.OutOfBox id) = Some (list.Bots, id, kind.OutOfBox)
blamed_at (world.NotAdjacent id) = Some (list.Bots, id, kind.NotAdjacent)
blamed_at (world.Overlap id) = Some (list.Bots, id, kind.Overlap)
blamed_at (world.BadValue id) = Some (list.Bots, id, kind.BadValue)
blamed_at (world.BadWall place) = Some (list.Walls, place, kind.BadWall)
blamed_at (world.OnWall id) = Some (list.Bots, id, kind.OnWall)
blamed_at world.NoMemory = None

-- the shape is refused for the first rule that it breaks, or it is this world;
-- out of memory says nothing
abbrev pub IsJudged : List ℕ → WrittenShape → Result Config ReadRefusal → Type 0
IsJudged maxes s (Ok w) = (shape_fault maxes s ≡ None) × (w ≡ stands_for maxes s)
IsJudged maxes s (Err NoMemory) = Unit {0}
IsJudged maxes s (Err (Refused r)) = shape_fault maxes s ≡ Some r

-- the list has that place
abbrev pub HasPlace : List code_wall.WrittenWall → List code_bot.WrittenBot
    → Option (Listed × ℕ × RefusalKind) → Type 0
HasPlace walls bots None = Unit {0}
HasPlace walls bots (Some (list.Walls, place, k)) = place < length walls
HasPlace walls bots (Some (list.Bots, place, k)) = place < length bots

-- the refusal names the line of what stands at that place
abbrev pub BlamedAs : List code_wall.WrittenWall → List code_bot.WrittenBot
    → Option (Listed × ℕ × RefusalKind) → ReadRefusal → Type 0
BlamedAs walls bots None e = e ≡ NoMemory
BlamedAs walls bots (Some (list.Walls, place, k)) e =
    (w : code_wall.WrittenWall) → slice_get walls place ≡ Some w → e ≡ Refused (on_line w.line k)
BlamedAs walls bots (Some (list.Bots, place, k)) e =
    (b : code_bot.WrittenBot) → slice_get bots place ≡ Some b → e ≡ Refused (on_line b.line k)
