use Rattle.std.proofs.Common.{◌≡◌, ◌++◌}
use Rattle.text_tokens.specs.Lines.{lines_text}
use Rattle.shape_text.specs.Texts.{wall_lines}
use Rattle.shape_text.proofs.WallNumbers.{below}
use Rattle.shape_text.proofs.printed.put_walls.Given as goal

-- the walls with a number below the next one have their lines
abbrev pub invariant-loop-number : goal.invariant-loop-number
invariant-loop-number l = l.lines ≡ l.fn.lines ++ lines_text (wall_lines l.world.area (below l.number l.world.walls))
