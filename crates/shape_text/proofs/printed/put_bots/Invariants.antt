use Rattle.std.proofs.Common.{◌≡◌, ◌++◌, map, take}
use Rattle.text_tokens.specs.Lines.{lines_text}
use Rattle.shape_text.specs.Texts.{bot_line, present}
use Rattle.shape_text.proofs.printed.put_bots.Given as goal

abbrev pub invariant-loop-id : goal.invariant-loop-id
invariant-loop-id l = l.lines ≡ l.fn.lines ++ lines_text (map (bot_line l.vars) (present (take l.id l.world.bots)))
